-- What search doesn't prove of `put_value_set`: the clause `too_long`, the clause `kept` and the clause `ok`, by lemmas
-- of `Puts` (`ldap_msg`).
use Rattle.std.proofs.Common.{◌∷◌, arith}
use Rattle.std.proofs.lemmas.Result.{err_from_is_err_and}
use Rattle.ldap_msg.specs.ldap_ber.Element.{element_bytes, length_octets}
use Rattle.ldap_msg.specs.ldap_ber.Rows.{row_bytes}
use Rattle.ldap_msg.proofs.ldap_ber.Puts.{headed, in_range, kept_same, kept_more}
use Rattle.directory_api.proofs.shown_values.put_value_set.Goals as goal

pub returns-in_err-write_head-clause-too_long : goal.returns-in_err-write_head-clause-too_long
returns-in_err-write_head-clause-too_long c =
    let p = err_from_is_err_and c.from_residual.result c.from_residual.ensures.1 in
    rw (p.1, p.2) (λ h. omega (arith, c.requires, c.in_err-write_head.ensures.too_long.0 h))

pub returns-in_err-write_head-clause-kept : goal.returns-in_err-write_head-clause-kept
returns-in_err-write_head-clause-kept c = kept_same _ _ c.in_err-write_head.ensures.err

pub returns-clause-ok : goal.returns-clause-ok
returns-clause-ok c =
    headed c.put_values.result c.args.out.now.items c.write_head.new.out.items c.put_values.new.out.items 49
    c.args.len 4294967296 (row_bytes (element_bytes 4) c.args.attribute.now.values)
    c.requires (in_range _ _ _ _ c.in_ok-write_head.ensures.too_long) c.in_ok-write_head.ensures.ok
    c.put_values.ensures.ok

pub returns-clause-kept : goal.returns-clause-kept
returns-clause-kept c = kept_more _ c.write_head.new.out.items _ (49 ∷ length_octets c.args.len)
    c.in_ok-write_head.ensures.ok c.put_values.ensures.kept
