-- The goals of `number` that no tactic closes, each by one lemma over plain lists.
use Rattle.std.proofs.Common.{ℕ, ◌+◌, ◌*◌, length, get_or, ap, sym, ◌∙◌, arith}
use Rattle.ldap_ber.proofs.Numbers.{fits, grows, number_more}
use Rattle.ldap_ber.proofs.octets.number.Goals as goal

pub overflow_mul-n : goal.overflow_mul-n
overflow_mul-n c =
    omega (
      arith,
      fits c.loop-octet.n 0 c.loop-octet.octet-index (length
          c.args.octets.now) c.loop-octet.invariant.small (omega arith) c.loop-octet-test.true c.requires,
    )

pub overflow_add-n : goal.overflow_add-n
overflow_add-n c =
    omega (
      arith,
      fits c.loop-octet.n (get_or c.args.octets.now c.loop-octet.octet-index
          0) c.loop-octet.octet-index (length c.args.octets.now) c.loop-octet.invariant.small
          (omega (arith, c.type_inv.octets c.loop-octet.octet-index)) c.loop-octet-test.true c.requires,
    )

pub loop-octet-preserved : goal.loop-octet-preserved
loop-octet-preserved c =
    let i = c.loop-octet.octet-index in
    let b = get_or c.args.octets.now i 0 in
    record {
      value = ap (λ (n : ℕ). n * 256 + b) c.loop-octet.invariant.value
          ∙ sym (number_more c.args.octets.now i c.loop-octet-test.true);
      small = grows c.loop-octet.n b i c.loop-octet.invariant.small (omega (arith, c.type_inv.octets i));
    }
