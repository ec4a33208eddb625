-- What search doesn't prove of `pushed`: what it returns, by lemmas of `Wholes`.
use Rattle.std.proofs.Common.{ap, ◌∙◌}
use Rattle.value_parts.specs.Parts.{whole, before}
use Rattle.value_parts.specs.KeptParts.{as_part}
use Rattle.value_parts.proofs.Wholes.{same_part, whole_push}
use Rattle.value_parts.proofs.without.pushed.Goals as goal

pub returns : goal.returns
returns c =
    ap whole c.in_ok-push.ensures.items ∙ whole_push c.args.parts.items c.in_ok-new.field-0
    ∙ ap (before (whole c.args.parts.items)) (same_part c.in_ok-new.field-0 (as_part c.args.lists)
    c.in_ok-new.ensures.values c.in_ok-new.ensures.keys c.in_ok-new.ensures.forms)
