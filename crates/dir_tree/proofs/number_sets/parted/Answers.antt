-- What search doesn't prove of `parted`: `loop-number-preserved`, by lemmas of `Kept` and `LevelFacts`.
use Rattle.std.proofs.Common.{ap, ◌∙◌}
use Rattle.dir_entry.specs.shared_map.Sets.{has_number}
use Rattle.dir_tree.proofs.Kept.{has-out}
use Rattle.dir_tree.proofs.LevelFacts.{parted_step}
use Rattle.dir_tree.proofs.number_sets.parted.Goals as goal

pub loop-number-preserved : goal.loop-number-preserved
loop-number-preserved c j =
    parted_step j c.in-Some.number (has_number j c.loop-number.rest) (has_number j c.next.new.self)
    (has_number j c.loop-number.changed) (has_number j c.in_ok-changed-2.changed) (has_number j c.args.fewer.now)
    (has_number j c.args.set.now)
    (ap (has_number j) c.in-Some.ensures) (ap (has_number j) c.in_ok-changed-2.ensures ∙ has-out j c.in-Some.number
    c.loop-number.changed c.rises.ensures) (c.loop-number.invariant j)
