-- The goals of `number_length` that no tactic closes, each by one lemma over plain lists.
use Rattle.std.proofs.Common.{◌≡◌, length, ap, ◌∙◌, arith, to_z, of_z, w64}
use Rattle.std.specs.Prelude.{ℤ}
use Rattle.std.proofs.lemmas.Int.{ints}
use Rattle.ldap_ber.specs.Element.{element_bytes}
use Rattle.ldap_ber.specs.Values.{integer_octets}
use Rattle.ldap_ber.proofs.measuring_rows.number_length.Goals as goal

pub returns : goal.returns
returns c = λ first.
    let back : to_z w64 (of_z w64 c.from.result) ≡ c.from.result = omega (arith, ints) in
    c.integer_length.ensures first ∙ ap (λ (z : ℤ). length (element_bytes first (integer_octets z))) (back
    ∙ c.from.ensures)
