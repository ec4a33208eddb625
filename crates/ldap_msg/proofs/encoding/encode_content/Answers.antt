-- The goals of `encode_content` that no tactic closes, each by one lemma over plain lists.
use Rattle.std.proofs.Common.{refl, arith}
use Rattle.std.proofs.lemmas.Result.{err_from_is_err_and}
use Rattle.ldap_requests.proofs.ldap_ber.Puts.{same_error}
use Rattle.ldap_msg.proofs.Encoded.{whole_alone, too_long}
use Rattle.ldap_msg.proofs.encoding.encode_content.Goals as goal

pub returns-in_err-begin-clause-too_long : goal.returns-in_err-begin-clause-too_long
returns-in_err-begin-clause-too_long c =
    let p = err_from_is_err_and c.from_residual.result c.from_residual.ensures.1 in
    rw (p.1, p.2) (λ h. too_long c.args.id c.args.first _ c.message_length-total.result 4294967296 c.args.content.now
    c.args.controls.now refl (c.message_length-total.ensures c.args.first c.args.content.now c.args.controls.now
    refl refl)
    (c.in_err-begin.ensures.too_long (same_error _ _ h)))

pub returns-clause-ok : goal.returns-clause-ok
returns-clause-ok c =
    whole_alone c.args.id c.args.first _ c.message_length-total.result 4294967296 c.args.content.now
    c.args.controls.now _ c.begin.new.out.items c.put_octets.new.out.items c.put_octets-2.new.out.items
    c.new-octets.ensures.items refl c.in_ok-begin.ensures.content_fits (c.message_length-total.ensures c.args.first
    c.args.content.now c.args.controls.now refl refl) c.in_ok-begin.ensures.total_fits
    c.in_ok-begin.ensures.ok c.in_ok-put_octets.ensures.ok c.in_ok-put_octets-2.ensures.ok

pub returns-clause-fits : goal.returns-clause-fits
returns-clause-fits c = omega (
  arith,
  c.message_length-total.ensures c.args.first c.args.content.now c.args.controls.now refl refl,
  c.in_ok-begin.ensures.total_fits,
)
