-- What search doesn't prove of `cut_pair`: `loop-at-preserved`, by lemmas of `Pairs`.
use Rattle.std.proofs.Common.{sym, ap, ◌∙◌}
use Rattle.lab_script.specs.Cuts.{begins_value}
use Rattle.lab_script.proofs.Pairs.{pair_more, all_behind}
use Rattle.lab_script.proofs.cuts.cut_pair.Goals as goal

pub loop-at-preserved : goal.loop-at-preserved
loop-at-preserved c =
    pair_more c.args.text.now c.loop-at.at c.loop-at.invariant c.loop-at-test.true
    (sym (ap begins_value (all_behind c.args.text.now c.loop-at.at)) ∙ c.in-None.ensures)
