-- The goals of `integer` that no tactic closes, each by one lemma over plain lists.
use Rattle.std.proofs.Common.{◌^◌, ◌<◌, arith}
use Rattle.std.proofs.lemmas.Int.{ints}
use Rattle.ldap_ber.proofs.Numbers.{octets_from}
use Rattle.ldap_ber.proofs.ValueLemmas.{positive_below, negative_below, is_positive, is_negative}
use Rattle.ldap_ber.proofs.values.integer.Goals as goal
use Rattle.ldap_ber.proofs.values.integer.Goals.{After-number, After-complement}

below : (c : After-number) → c.number.result < 2 ^ 63
below c = omega (
  arith,
  c.number.ensures,
  positive_below c.args.content.now c.in-len1-up.len_at_least
      c.if-first-lt128.true (octets_from _ (λ i. omega (arith, c.type_inv.content i))) c.if-content-gt8.false,
)

below_turned : (c : After-complement) → c.complement.result < 2 ^ 63
below_turned c = omega (
  arith,
  c.complement.ensures,
  negative_below c.args.content.now c.in-len1-up.len_at_least
      c.if-first-lt128.false c.if-content-gt8.false,
)

pub overflow_cast-result : goal.overflow_cast-result
overflow_cast-result c = let lt = below c in omega (arith, ints)

pub overflow_cast-result-else-first-lt128 : goal.overflow_cast-result-else-first-lt128
overflow_cast-result-else-first-lt128 c = let lt = below_turned c in omega (arith, ints)

pub returns-then-first-lt128-clause-found : goal.returns-then-first-lt128-clause-found
returns-then-first-lt128-clause-found c =
    let lt = below c in
    is_positive c.args.content.now _ c.in-len1-up.len_at_least c.if-first-lt128.true c.if-content-gt8.false
    (c.is_minimal.ensures.0 c.if-not-is_minimal.false) (omega (arith, ints, c.number.ensures))

pub returns-else-first-lt128-clause-found : goal.returns-else-first-lt128-clause-found
returns-else-first-lt128-clause-found c =
    let lt = below_turned c in
    is_negative c.args.content.now _ c.in-len1-up.len_at_least c.if-first-lt128.false c.if-content-gt8.false
    (c.is_minimal.ensures.0 c.if-not-is_minimal.false) (omega (arith, ints, c.complement.ensures))
