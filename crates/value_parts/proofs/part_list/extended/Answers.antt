-- What search doesn't prove of `extended`: what it returns, by a lemma of `Wholes`.
use Rattle.std.proofs.Common.{ap, ◌∙◌}
use Rattle.value_parts.specs.Parts.{whole, before}
use Rattle.value_parts.proofs.Wholes.{whole-append}
use Rattle.value_parts.proofs.part_list.extended.Goals as goal

pub returns : goal.returns
returns c =
    ap whole c.in_ok-append.ensures.items ∙ whole-append c.args.parts.items c.in_ok-behind.behind.items
    ∙ ap (before (whole c.args.parts.items)) c.in_ok-behind.ensures
