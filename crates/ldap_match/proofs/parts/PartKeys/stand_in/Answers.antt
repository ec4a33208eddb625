-- What search doesn't prove of `stand_in`: what it returns, by lemmas of `Decided`.
use Rattle.std.proofs.Common.{option_copied}
use Rattle.ldap_match.proofs.Decided.{standing}
use Rattle.ldap_match.proofs.parts.PartKeys.stand_in.Goals as goal

pub returns : goal.returns
returns c =
    standing c.args.self.now (option_copied c.as_ref.result) (option_copied c.as_ref-2.result) c.self.inside.initial
    c.self.inside.last c.deref.result.now c.self.inside.any.items c.args.key.now c.has_parts.result
    c.self.view_is c.as_ref.ensures.value c.deref.ensures.value c.as_ref-2.ensures.value c.has_parts.ensures
