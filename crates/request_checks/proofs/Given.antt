-- Controls, one after the other.
use Rattle.std.proofs.Common.{◌≡◌, ℕ, suc, ◌+◌, ◌<◌, List, ◌∷◌, length, map, drop, get_or, Bool, false, sym, ap, ◌∙◌, add-one, drop-cons, ◌||◌}
use Rattle.std.specs.List.{list_any}
use Rattle.ldap_msg.specs.ldap_parts.Values.{ControlValue}
use Rattle.ldap_msg.specs.ldap_parts.View.{control_view}
use Rattle.ldap_msg.specs.ldap_parts.declared.control.Control.{Control}

-- the controls from a place on are the one there and those behind it
row : (controls : List Control) (i : ℕ) (c : Control) → i < length controls → c ≡ get_or controls i c →
    map control_view (drop i controls) ≡ control_view c ∷ map control_view (drop (i + 1) controls)
row controls i c lt is =
    ap (map control_view) (drop-cons controls i c lt)
    ∙ ap (λ (x : Control). control_view x ∷ map control_view (drop (suc i) controls)) (sym is)
    ∙ ap (λ (k : ℕ). control_view c ∷ map control_view (drop k controls)) (sym (add-one i))

-- by whether the first has the property
any_by : (p : ControlValue → Bool) (b : Bool) (x : ControlValue) (xs : List ControlValue) → p x ≡ b →
    list_any p (x ∷ xs) ≡ (b || list_any p xs)
any_by p b x xs e = ap (λ (v : Bool). v || list_any p xs) e

-- none that is left out has the property
pub any_more : (p : ControlValue → Bool) (controls : List Control) (i : ℕ) (c : Control) →
    list_any p (map control_view (drop i controls)) ≡ list_any p (map control_view controls) → i < length controls →
    c ≡ get_or controls i c
    → p (control_view c) ≡ false → list_any p (map control_view (drop (i + 1) controls)) ≡
    list_any p (map control_view controls)
any_more p controls i c h lt is other =
    sym (ap (list_any p) (row controls i c lt is) ∙ any_by p false (control_view c)
    (map control_view (drop (i + 1) controls)) other) ∙ h
