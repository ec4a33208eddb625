-- What search doesn't prove of `key_of`: the clause `not_in_syntax` and the clause `key`, by lemmas of `Present`.
use Rattle.std.proofs.Common.{Some, ap, sym, refl, ◌∙◌}
use Rattle.ldap_syntax.specs.Meaning.{meaning}
use Rattle.ldap_syntax.proofs.Present.{none_is, integer_key, plain_key}
use Rattle.ldap_syntax.proofs.keying.key_of.Goals as goal

pub returns-then-not-has_meaning-clause-not_in_syntax : goal.returns-then-not-has_meaning-clause-not_in_syntax
returns-then-not-has_meaning-clause-not_in_syntax c = (
  λ _. none_is (meaning c.args.rule c.args.value.now)
      (sym c.has_meaning.ensures ∙ c.if-not-has_meaning.true),
  λ _. refl,
)

pub returns-in_ok-number_key-in-Integer-clause-key : goal.returns-in_ok-number_key-in-Integer-clause-key
returns-in_ok-number_key-in-Integer-clause-key c =
    integer_key c.args.rule c.args.value.now c.in-Integer.is (sym c.has_meaning.ensures ∙ c.if-not-has_meaning.false)
    ∙ ap Some (sym (c.new.ensures ∙ c.in_ok-number_key-in-Integer.ensures))

pub returns-in_ok-from_slice-in-Identifier-clause-key : goal.returns-in_ok-from_slice-in-Identifier-clause-key
returns-in_ok-from_slice-in-Identifier-clause-key c =
    plain_key c.args.rule c.args.value.now c.in-Identifier.is (sym c.has_meaning.ensures ∙ c.if-not-has_meaning.false)
    ∙ ap Some (sym c.in_ok-from_slice-in-Identifier.ensures)
