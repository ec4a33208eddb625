-- The goals of `integer_length` that are answered, each by one lemma over plain lists.
use Rattle.std.proofs.Common.{◌≡◌, ap, ◌∙◌, arith, to_z, of_z, w64}
use Rattle.std.proofs.lemmas.Int.{ints}
use Rattle.ldap_ber.specs.Values.{bits_of}
use Rattle.ldap_ber.proofs.Digits.{integer_measure}
use Rattle.ldap_ber.proofs.measuring.integer_length.Goals as goal

pub returns : goal.returns
returns c = λ first.
    let back : to_z w64 (of_z w64 c.args.value) ≡ c.args.value = omega (arith, ints) in
    integer_measure first c.width.result c.sign_and_bits-bits.result.1 c.args.value (c.sign_and_bits-bits.ensures.bits
    ∙ ap bits_of back) c.width.ensures
