-- The goals of `put_entry_message` that no tactic closes, each by one lemma over plain lists.
use Rattle.std.proofs.Common.{map, refl, arith}
use Rattle.std.proofs.lemmas.Result.{err_from_is_err_and}
use Rattle.ldap_requests.proofs.ldap_ber.Puts.{same_error}
use Rattle.ldap_requests.proofs.ldap_ber.Measures.{same_measure}
use Rattle.ldap_parts.specs.ResponsesWritten.{entry_content}
use Rattle.ldap_msg.proofs.Encoded.{whole, content_long, too_long}
use Rattle.ldap_msg.proofs.encoding.put_entry_message.Goals as goal

pub returns-in_err-begin-clause-too_long : goal.returns-in_err-begin-clause-too_long
returns-in_err-begin-clause-too_long g c =
    let content = entry_content (record {
      object_name = c.args.object_name.now;
      attributes =
          map g.A.AttributeParts.attribute c.args.attributes.now;
    }) in
    let measured = same_measure c.entry_length-content.result content 4294967296 c.entry_length-content.ensures in
    let p = err_from_is_err_and c.from_residual.result c.from_residual.ensures.1 in
    rw (p.1, p.2) (λ h. too_long c.args.id 100 c.entry_length-content.result c.message_length-total.result 4294967296
    content c.args.controls.now measured (c.message_length-total.ensures 100 content c.args.controls.now measured
    refl)
    (c.in_err-begin.ensures.too_long (same_error _ _ h)))

pub returns-in_err-put_entry-clause-too_long : goal.returns-in_err-put_entry-clause-too_long
returns-in_err-put_entry-clause-too_long g c =
    let content = entry_content (record {
      object_name = c.args.object_name.now;
      attributes =
          map g.A.AttributeParts.attribute c.args.attributes.now;
    }) in
    let p = err_from_is_err_and c.from_residual-in_err-put_entry.result c.from_residual-in_err-put_entry.ensures.1 in
    rw (p.1, p.2) (λ h. content_long c.args.id 100 content c.args.controls.now 4294967296
    (c.in_err-put_entry.ensures.too_long (same_error _ _ h)))

pub returns-clause-ok : goal.returns-clause-ok
returns-clause-ok g c =
    let content = entry_content (record {
      object_name = c.args.object_name.now;
      attributes =
          map g.A.AttributeParts.attribute c.args.attributes.now;
    }) in
    let measured = same_measure c.entry_length-content.result content 4294967296 c.entry_length-content.ensures in
    whole c.args.id 100 c.entry_length-content.result c.message_length-total.result 4294967296 content
    c.args.controls.now c.args.out.now.items c.begin.new.out.items c.put_entry.new.out.items
    c.put_octets.new.out.items
    measured c.in_ok-begin.ensures.content_fits (c.message_length-total.ensures 100 content c.args.controls.now
    measured refl) c.in_ok-begin.ensures.total_fits
    c.in_ok-begin.ensures.ok c.in_ok-put_entry.ensures.ok c.in_ok-put_octets.ensures.ok

pub returns-clause-fits : goal.returns-clause-fits
returns-clause-fits g c =
    let content = entry_content (record {
      object_name = c.args.object_name.now;
      attributes =
          map g.A.AttributeParts.attribute c.args.attributes.now;
    }) in
    let measured = same_measure c.entry_length-content.result content 4294967296 c.entry_length-content.ensures in
    omega (
      arith,
      c.message_length-total.ensures 100 content c.args.controls.now measured refl,
      c.in_ok-begin.ensures.total_fits,
    )
