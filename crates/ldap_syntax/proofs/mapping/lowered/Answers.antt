-- What search doesn't prove of `lowered`: what it returns, step by step.
use Rattle.std.proofs.Common.{sym, ap, ◌∙◌, map, map-id}
use Rattle.std.proofs.lemmas.Iterator.{YieldsList-from_chars}
use Rattle.std.proofs.lemmas.Iterator.Consumers.{YieldsList-end}
use Rattle.std.specs.Char.{to_ascii_lowercase}
use Rattle.ldap_syntax.specs.Text.{mapped}
use Rattle.ldap_syntax.proofs.mapping.lowered.Goals as goal

pub returns : goal.returns
returns c =
    let end = YieldsList-end (YieldsList-from_chars c.args.text.now c.utf8.text cc) c.loop-c.yielded _
    c.loop-c.yielded_by _ _ c.in-None.is c.next.ensures.steps in
    c.loop-c.invariant ∙ ap (λ t. map to_ascii_lowercase (mapped t)) (sym (map-id c.loop-c.yielded) ∙ end.0)
