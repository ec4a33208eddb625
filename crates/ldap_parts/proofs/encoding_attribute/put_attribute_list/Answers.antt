-- The goals of `put_attribute_list` that no tactic closes, each by one lemma over plain lists.
use Rattle.std.proofs.Common.{◌∷◌, map, arith}
use Rattle.std.proofs.lemmas.Result.{err_from_is_err_and}
use Rattle.ldap_ber.specs.Element.{length_octets}
use Rattle.ldap_ber.specs.Rows.{row_bytes}
use Rattle.ldap_ber.proofs.Puts.{headed, in_range, kept_same, kept_more}
use Rattle.ldap_parts.specs.Written.{attribute_bytes}
use Rattle.ldap_parts.proofs.encoding_attribute.put_attribute_list.Goals as goal

pub returns-in_err-write_head-clause-too_long : goal.returns-in_err-write_head-clause-too_long
returns-in_err-write_head-clause-too_long g c =
    let p = err_from_is_err_and c.from_residual.result c.from_residual.ensures.1 in
    rw (p.1, p.2) (λ h. omega (arith, c.attributes_length.ensures, c.in_err-write_head.ensures.too_long.0 h))

pub returns-in_err-write_head-clause-kept : goal.returns-in_err-write_head-clause-kept
returns-in_err-write_head-clause-kept g c = kept_same _ _ c.in_err-write_head.ensures.err

pub returns-clause-ok : goal.returns-clause-ok
returns-clause-ok g c =
    headed c.put_attributes.result c.args.out.now.items c.write_head.new.out.items c.put_attributes.new.out.items 48
    c.attributes_length.result 4294967296 (row_bytes attribute_bytes (map g.A.AttributeParts.attribute
    c.args.attributes.now))
    c.attributes_length.ensures (in_range _ _ _ _ c.in_ok-write_head.ensures.too_long) c.in_ok-write_head.ensures.ok
    c.put_attributes.ensures.ok

pub returns-clause-kept : goal.returns-clause-kept
returns-clause-kept g c = kept_more _ c.write_head.new.out.items _ (48 ∷ length_octets c.attributes_length.result)
    c.in_ok-write_head.ensures.ok c.put_attributes.ensures.kept
