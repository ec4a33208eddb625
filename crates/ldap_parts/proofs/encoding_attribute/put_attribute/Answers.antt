-- The goals of `put_attribute` that no tactic closes, each by one lemma over plain lists.
use Rattle.std.proofs.Common.{◌∷◌, arith}
use Rattle.std.proofs.lemmas.Result.{err_from_is_err_and}
use Rattle.ldap_ber.specs.Element.{length_octets}
use Rattle.ldap_ber.proofs.Puts.{headed, in_range, kept_same, kept_more}
use Rattle.ldap_ber.proofs.RowsWritten.{element_long}
use Rattle.ldap_parts.specs.Written.{attribute_content}
use Rattle.ldap_parts.proofs.encoding_attribute.put_attribute.Goals as goal

pub returns-in_err-write_head-clause-too_long : goal.returns-in_err-write_head-clause-too_long
returns-in_err-write_head-clause-too_long g c =
    let p = err_from_is_err_and c.from_residual.result c.from_residual.ensures.1 in
    rw (p.1, p.2) (λ h. element_long 48 (attribute_content (g.A.AttributeParts.attribute c.args.attribute.now))
    4294967296 (omega (arith, c.content_length.ensures, c.in_err-write_head.ensures.too_long.0 h)))

pub returns-in_err-write_head-clause-kept : goal.returns-in_err-write_head-clause-kept
returns-in_err-write_head-clause-kept g c = kept_same _ _ c.in_err-write_head.ensures.err

pub returns-clause-ok : goal.returns-clause-ok
returns-clause-ok g c =
    headed c.put_content.result c.args.out.now.items c.write_head.new.out.items c.put_content.new.out.items 48
    c.content_length.result 4294967296 (attribute_content (g.A.AttributeParts.attribute c.args.attribute.now))
    c.content_length.ensures (in_range _ _ _ _ c.in_ok-write_head.ensures.too_long) c.in_ok-write_head.ensures.ok
    c.put_content.ensures.ok

pub returns-clause-too_long : goal.returns-clause-too_long
returns-clause-too_long g c = λ h. element_long 48
    (attribute_content (g.A.AttributeParts.attribute c.args.attribute.now)) 4294967296 (c.put_content.ensures.too_long
    h)

pub returns-clause-kept : goal.returns-clause-kept
returns-clause-kept g c = kept_more _ c.write_head.new.out.items _ (48 ∷ length_octets c.content_length.result)
    c.in_ok-write_head.ensures.ok c.put_content.ensures.kept
