-- The goals of `write_integer` that no tactic closes, each by one lemma over plain lists.
use Rattle.std.proofs.Common.{◌≡◌, ap, ◌∙◌, arith, to_z, of_z, w64}
use Rattle.std.proofs.lemmas.Int.{ints}
use Rattle.ldap_ber.specs.Values.{is_below, bits_of}
use Rattle.ldap_ber.proofs.Digits.{puts_all}
use Rattle.ldap_ber.proofs.writing.write_integer.Goals as goal

pub returns-clause-ok : goal.returns-clause-ok
returns-clause-ok c =
    let back : to_z w64 (of_z w64 c.args.value) ≡ c.args.value = omega (arith, ints) in
    puts_all c.args.out.now.items c.try_reserve.new.self.items c.push_reserved.new.self.items
    c.push_reserved-2.new.self.items c.put_digits.new.out.items c.args.first c.width-count.result
    c.sign_and_bits-negative.result.1 c.sign_and_bits-negative.result.0 c.args.value
    c.try_reserve.ensures.items c.push_reserved.ensures.items c.push_reserved-2.ensures.items
    (c.sign_and_bits-negative.ensures.sign ∙ ap is_below back) (c.sign_and_bits-negative.ensures.bits
    ∙ ap bits_of back) c.width-count.ensures c.put_digits.ensures.items
