-- What search doesn't prove of `pushed_without`: what it returns where the part stays, by lemmas of `Wholes` and
-- `Taken`.
use Rattle.std.proofs.Common.{ap, sym, ◌∙◌}
use Rattle.value_parts.specs.Parts.{whole, before}
use Rattle.value_parts.proofs.Wholes.{whole_push}
use Rattle.value_parts.proofs.Taken.{part_stays}
use Rattle.value_parts.proofs.without.pushed_without.Goals as goal

pub returns : goal.returns
returns c =
    ap whole c.in_ok-push.ensures.items ∙ whole_push c.args.parts.items c.args.part
    ∙ ap (before (whole c.args.parts.items)) (sym (part_stays c.args.given.now c.args.by_keys c.args.keyed c.args.part
    c.requires.keyed c.requires.fits (sym c.has_some.ensures ∙ c.if-has_some.false)))
