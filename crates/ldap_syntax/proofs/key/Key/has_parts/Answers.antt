-- What search doesn't prove of `has_parts`: what it returns, by lemmas of `Search`.
use Rattle.std.proofs.Common.{sym, ◌∙◌, option_copied}
use Rattle.ldap_syntax.proofs.Search.{whole, no_back}
use Rattle.ldap_syntax.proofs.key.Key.has_parts.Goals as goal

pub returns-in_default-before : goal.returns-in_default-before
returns-in_default-before c =
    no_back (option_copied c.args.initial) (option_copied c.args.last) c.args.any.now c.args.self.now
    c.octets_of.result.now c.octets_of-2.result.now c.in-Some.rest.now
    c.octets_of.ensures c.octets_of-2.ensures (sym c.as_octets.ensures ∙ c.in-Some.ensures) c.in_default-before.ensures

pub returns : goal.returns
returns c =
    whole (option_copied c.args.initial) (option_copied c.args.last) c.args.any.now c.args.self.now
    c.octets_of.result.now c.octets_of-2.result.now c.in-Some.rest.now c.in-Some-before.middle.now
    c.stand_in_order.result
    c.octets_of.ensures c.octets_of-2.ensures (sym c.as_octets.ensures ∙ c.in-Some.ensures) c.in-Some-before.ensures
    c.stand_in_order.ensures
