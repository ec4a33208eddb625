-- The goals of `begin` that no tactic closes, each by one lemma over plain lists.
use Rattle.std.proofs.Common.{◌∷◌, inl, inr}
use Rattle.std.proofs.lemmas.Result.{err_from_is_err_and}
use Rattle.ldap_requests.specs.ldap_ber.Element.{length_octets}
use Rattle.ldap_requests.specs.ldap_ber.Written.{number_bytes}
use Rattle.ldap_requests.proofs.ldap_ber.Puts.{in_range, same_error}
use Rattle.ldap_msg.proofs.Encoded.{begun}
use Rattle.ldap_msg.proofs.encoding.begin.Goals as goal

pub returns-in_err-write_head-clause-too_long : goal.returns-in_err-write_head-clause-too_long
returns-in_err-write_head-clause-too_long c =
    let p = err_from_is_err_and c.from_residual-in_err-write_head.result c.from_residual-in_err-write_head.ensures.1 in
    rw (p.1, p.2) (λ h. inr (c.in_err-write_head.ensures.too_long.0 (same_error _ _ h)))

pub returns-in_err-write_head-2-clause-too_long : goal.returns-in_err-write_head-2-clause-too_long
returns-in_err-write_head-2-clause-too_long c =
    let p = err_from_is_err_and c.from_residual-in_err-write_head-2.result
    c.from_residual-in_err-write_head-2.ensures.1 in
    rw (p.1, p.2) (λ h. inl (c.in_err-write_head-2.ensures.too_long.0 (same_error _ _ h)))

pub returns-clause-ok : goal.returns-clause-ok
returns-clause-ok c =
    begun (48 ∷ length_octets c.args.total) (number_bytes 2 c.args.id) (c.args.first ∷ length_octets c.args.content)
    c.args.out.now.items c.reserve.new.out.items c.write_head.new.out.items c.put_number.new.out.items
    c.write_head-2.new.out.items
    c.in_ok-reserve.ensures.kept c.in_ok-write_head.ensures.ok c.in_ok-put_number.ensures.ok
    c.in_ok-write_head-2.ensures.ok

pub returns-clause-total_fits : goal.returns-clause-total_fits
returns-clause-total_fits c = in_range _ _ _ _ c.in_ok-write_head.ensures.too_long

pub returns-clause-content_fits : goal.returns-clause-content_fits
returns-clause-content_fits c = in_range _ _ _ _ c.in_ok-write_head-2.ensures.too_long
