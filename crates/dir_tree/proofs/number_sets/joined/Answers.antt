-- What search doesn't prove of `joined`: `loop-number-preserved`, by lemmas of `Kept` and `LevelFacts`.
use Rattle.std.proofs.Common.{ap, ◌∙◌}
use Rattle.dir_entry.specs.shared_map.Sets.{has_number}
use Rattle.dir_tree.proofs.Kept.{has-put}
use Rattle.dir_tree.proofs.LevelFacts.{joined_step}
use Rattle.dir_tree.proofs.number_sets.joined.Goals as goal

pub loop-number-preserved : goal.loop-number-preserved
loop-number-preserved c j =
    joined_step j c.in-Some.number (has_number j c.loop-number.rest) (has_number j c.next.new.self)
    (has_number j c.loop-number.changed) (has_number j c.in_ok-changed-2.changed) (has_number j c.args.more.now)
    (has_number j c.args.set.now)
    (ap (has_number j) c.in-Some.ensures) (ap (has_number j) c.in_ok-changed-2.ensures ∙ has-put j c.in-Some.number
    c.loop-number.changed) (c.loop-number.invariant j)
