-- The goals of `put_entry` that no tactic closes, each by one lemma over plain lists.
use Rattle.std.proofs.Common.{map}
use Rattle.std.proofs.lemmas.Result.{err_from_is_err_and}
use Rattle.ldap_ber.specs.Element.{element_bytes}
use Rattle.ldap_ber.specs.Rows.{row_bytes}
use Rattle.ldap_parts.specs.Written.{attribute_bytes}
use Rattle.ldap_ber.proofs.Puts.{two, kept_same, kept_more}
use Rattle.ldap_ber.proofs.RowsWritten.{element_long}
use Rattle.ldap_ber.proofs.Measures.{first_long, second_long}
use Rattle.ldap_parts.proofs.encoding_entry.put_entry.Goals as goal

pub returns-in_err-write-clause-too_long : goal.returns-in_err-write-clause-too_long
returns-in_err-write-clause-too_long g c =
    let object_name = c.args.object_name.now in
    let row = row_bytes attribute_bytes (map g.A.AttributeParts.attribute c.args.attributes.now) in
    let p = err_from_is_err_and c.from_residual.result c.from_residual.ensures.1 in
    rw (p.1, p.2) (λ h. first_long (element_bytes 4 object_name) (element_bytes 48 row) 4294967296
    (element_long 4 object_name 4294967296 (rw c.as_bytes.ensures.value at (c.in_err-write.ensures.too_long.0 h))))

pub returns-in_err-write-clause-kept : goal.returns-in_err-write-clause-kept
returns-in_err-write-clause-kept g c = kept_same _ _ c.in_err-write.ensures.err

pub returns-clause-ok : goal.returns-clause-ok
returns-clause-ok g c =
    let object_name = c.args.object_name.now in
    let row = row_bytes attribute_bytes (map g.A.AttributeParts.attribute c.args.attributes.now) in
    two c.put_attribute_list.result c.args.out.now.items (element_bytes 4 object_name) (element_bytes 48 row)
    c.write.new.out.items c.put_attribute_list.new.out.items
    (rw c.as_bytes.ensures.value at c.in_ok-write.ensures.ok) c.put_attribute_list.ensures.ok

pub returns-clause-too_long : goal.returns-clause-too_long
returns-clause-too_long g c = λ h.
    let object_name = c.args.object_name.now in
    let row = row_bytes attribute_bytes (map g.A.AttributeParts.attribute c.args.attributes.now) in
    second_long (element_bytes 4 object_name) (element_bytes 48 row) 4294967296 (element_long 48 row 4294967296
    (c.put_attribute_list.ensures.too_long h))

pub returns-clause-kept : goal.returns-clause-kept
returns-clause-kept g c = kept_more _ c.write.new.out.items _ (element_bytes 4 c.args.object_name.now)
    (rw c.as_bytes.ensures.value at c.in_ok-write.ensures.ok) c.put_attribute_list.ensures.kept
