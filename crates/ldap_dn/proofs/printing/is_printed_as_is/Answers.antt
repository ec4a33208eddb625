-- What search doesn't prove of `is_printed_as_is`: what it returns, by lemmas of `Plain`.
use Rattle.std.proofs.Common.{ℕ, ◌-◌, List, length, slice_get, ap, sym, ◌∙◌, subst, ◌≡◌, true}
use Rattle.std.specs.Option.{option_copied}
use Rattle.std.specs.List.{list_all}
use Rattle.ldap_dn.specs.private.Plain.{is_plain}
use Rattle.ldap_dn.proofs.Plain.{printed_plain, printed_nothing}
use Rattle.ldap_dn.proofs.printing.is_printed_as_is.Goals as goal

pub returns-in_default : goal.returns-in_default
returns-in_default c = λ _.
    printed_nothing c.args.value.now (ap (λ (l : List ℕ). slice_get l 0) (sym c.as_bytes-octets.ensures.value)
    ∙ sym c.first.ensures.value ∙ ap option_copied c.in_default.is)

pub returns-then-has_plain_ends : goal.returns-then-has_plain_ends
returns-then-has_plain_ends c = λ h.
    printed_plain c.args.value.now c.in-Some.first.now c.in-Some-last.last.now
    (ap (λ (l : List ℕ). slice_get l 0) (sym c.as_bytes-octets.ensures.value) ∙ sym c.first.ensures.value
    ∙ ap option_copied c.in-Some.is)
    (ap (λ (l : List ℕ). slice_get l (length l - 1)) (sym c.as_bytes-octets.ensures.value) ∙ sym c.last.ensures.value
    ∙ ap option_copied c.in-Some-last.is)
    (sym c.has_plain_ends.ensures ∙ c.if-has_plain_ends.true)
    (subst (λ (l : List ℕ). list_all is_plain l ≡ true) c.as_bytes-octets.ensures.value (sym c.are_plain.ensures ∙ h))
