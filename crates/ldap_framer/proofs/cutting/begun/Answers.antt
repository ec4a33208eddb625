-- The goals of `begun` that no tactic closes, each by one lemma over plain lists.
use Rattle.std.proofs.Common.{ℕ, ◌+◌, refl, sym, subst, take, inl, arith}
use Rattle.ldap_msg.specs.ldap_ber.Header.{IsHeaderFault}
use Rattle.ldap_msg.specs.ldap_ber.declared.fault.BerFault.TheVariants.{HighTag, Indefinite, LengthTooLong}
use Rattle.ldap_framer.specs.Stream.{IsFrame}
use Rattle.ldap_framer.proofs.Frames.{framed, awaited_short, no_frame}
use Rattle.ldap_framer.proofs.cutting.begun.Goals as goal

pub frame_of-requires-clause-is_frame : goal.frame_of-requires-clause-is_frame
frame_of-requires-clause-is_frame c =
    let found = c.in-Ok.ensures.found in
    subst (λ (k : ℕ). IsFrame (take (k + c.in-Ok.len) c.args.octets.now)) (sym found.4)
    (framed c.args.octets.now found.0 found.1 c.in-Ok.field-0-0 c.in-Ok.len c.requires found.2 found.3
    (omega (arith, found.4, c.if-octets-total.false)))

pub returns-in-Err-Short-clause-found : goal.returns-in-Err-Short-clause-found
returns-in-Err-Short-clause-found c =
    awaited_short c.args.octets.now c.requires (subst (λ f. IsHeaderFault f c.args.octets.now)
    c.in-Err-Short.field-0-is ((c.in-Err-Short.ensures.fault c.in-Err-Short.field-0).0 refl))

pub returns-in-Err-HighTag-clause-found : goal.returns-in-Err-HighTag-clause-found
returns-in-Err-HighTag-clause-found c =
    inl (no_frame HighTag c.args.octets.now (λ e. absurd cc) (subst (λ f. IsHeaderFault f c.args.octets.now)
    c.in-Err-HighTag.field-0-is ((c.in-Err-HighTag.ensures.fault c.in-Err-HighTag.field-0).0 refl)))

pub returns-in-Err-Indefinite-clause-found : goal.returns-in-Err-Indefinite-clause-found
returns-in-Err-Indefinite-clause-found c =
    inl (no_frame Indefinite c.args.octets.now (λ e. absurd cc) (subst (λ f. IsHeaderFault f c.args.octets.now)
    c.in-Err-Indefinite.field-0-is ((c.in-Err-Indefinite.ensures.fault c.in-Err-Indefinite.field-0).0 refl)))

pub returns-in-Err-LengthTooLong-clause-found : goal.returns-in-Err-LengthTooLong-clause-found
returns-in-Err-LengthTooLong-clause-found c =
    inl (no_frame LengthTooLong c.args.octets.now (λ e. absurd cc) (subst (λ f. IsHeaderFault f c.args.octets.now)
    c.in-Err-LengthTooLong.field-0-is ((c.in-Err-LengthTooLong.ensures.fault c.in-Err-LengthTooLong.field-0).0
    refl)))
