-- What search doesn't prove of `held`: what it returns, by lemmas of `Indexing`.
use Rattle.std.proofs.Common.{ap, ◌∙◌}
use Rattle.dir_entry.specs.Picked.{picked}
use Rattle.entry_changes.proofs.Indexing.{same_attribute, three_ok}
use Rattle.entry_changes.proofs.opened.held.Goals as goal

pub returns : goal.returns
returns c =
    three_ok _ _ _ _ c.kept.result c.kept.ensures.kind c.kept.ensures.values c.kept.ensures.keys
    (λ a k v w. same_attribute a _ k (v ∙ ap (λ ms. picked ms c.args.attribute.values) (c.as_slice.ensures.value
    ∙ c.in_ok-marks.ensures)) (w ∙ ap (λ ms. picked ms c.args.attribute.keys) (c.as_slice.ensures.value
    ∙ c.in_ok-marks.ensures)))
