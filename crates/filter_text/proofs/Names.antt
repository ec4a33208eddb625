-- Filter texts, scanning: the machine of attribute descriptions accepts the descriptions.
use Rattle.std.proofs.Common.{◌≡◌, ℕ, List, [], ◌∷◌, Bool, true, false, cond, ◌&&◌, Option, None, Some, nat_eq, refl, sym, ap, ◌∙◌}
use Rattle.std.specs.List.{list_all, slice_split, onto_first}
use Rattle.std.proofs.lemmas.Bool.{eqb-true}
use Rattle.filter_text.specs.Descriptions.{is_key_octet, is_oid, is_option, is_description}
use Rattle.filter_text.specs.private.Machine.{holds, run, accepts, within}
use Rattle.filter_text.specs.private.ItemScan.{oid_first, oid_step, oid_ends, name_step, name_ends}
use Rattle.filter_text.specs.declared.place.OidPlace.{OidPlace}
use Rattle.filter_text.specs.declared.place.OidPlace.TheVariants.{Letters, Zero, Number, Dot, DottedZero, DottedNumber}
use Rattle.filter_text.specs.declared.place.NamePlace.{NamePlace}
use Rattle.filter_text.specs.declared.place.NamePlace.TheVariants.{Oid, Semicolon, Keys}
use Rattle.filter_text.proofs.Machines.{false_true, none_some, takes}
use Rattle.filter_text.proofs.Parts.{parts, onto, onto_never, parts_all, options, described, described_same, described_never, described_is}
use Rattle.filter_text.proofs.Oids.{ends_well, oid_same}
use Rattle.std.specs.Option.{option_and_then}

abbrev led : Option NamePlace → List ℕ → Bool
led o cs = holds name_ends (option_and_then (λ t. run name_step t cs) o)

abbrev split : List ℕ → List (List ℕ)
split cs = slice_split (λ c. nat_eq c 59) cs

abbrev at_split : Bool → ℕ → List ℕ → List (List ℕ)
at_split b c cs = cond b ([] ∷ split cs) (onto_first c (split cs))

-- ---- options

no_key : (c : ℕ) → nat_eq c 59 ≡ true → is_key_octet c ≡ false
no_key c e = ap is_key_octet (eqb-true c 59 e)

semicolon_at : (k p : Bool) (c : ℕ) (cs : List ℕ) → is_key_octet c ≡ k → nat_eq c 59 ≡ p → accepts name_step name_ends
    Keys cs ≡ parts (λ x. list_all is_key_octet x) is_option (split cs)
    → led (cond k (Some Keys) None) cs ≡ parts is_option is_option (at_split p c cs)
semicolon_at true true c cs k p h = absurd (false_true (sym (no_key c p) ∙ k))
semicolon_at true false c cs k p h = h ∙ sym (onto is_option (λ x. list_all is_key_octet x) is_option c
    (λ x. ap (λ b. b && list_all is_key_octet x) k) (split cs))
semicolon_at false true c cs k p h = refl
semicolon_at false false c cs k p h =
    sym (onto_never is_option is_option c (λ x. ap (λ b. b && list_all is_key_octet x) k) (split cs))

keys_at : (k p : Bool) (c : ℕ) (cs : List ℕ) → is_key_octet c ≡ k → nat_eq c 59 ≡ p → accepts name_step name_ends Keys
    cs ≡ parts (λ x. list_all is_key_octet x) is_option (split cs)
    → accepts name_step name_ends Semicolon cs ≡ parts is_option is_option (split cs)
    → led (cond k (Some Keys) (cond p (Some Semicolon) None)) cs ≡ parts (λ x. list_all is_key_octet x) is_option
    (at_split p c cs)
keys_at true true c cs k p h g = absurd (false_true (sym (no_key c p) ∙ k))
keys_at true false c cs k p h g = h ∙ sym (onto (λ x. list_all is_key_octet x) (λ x. list_all is_key_octet x)
    is_option c (λ x. ap (λ b. b && list_all is_key_octet x) k) (split cs))
keys_at false true c cs k p h g = g ∙ parts_all is_option 59 cs
keys_at false false c cs k p h g = sym (onto_never (λ x. list_all is_key_octet x) is_option c
    (λ x. ap (λ b. b && list_all is_key_octet x) k) (split cs))

mutual
  behind_semicolon : (cs : List ℕ) → accepts name_step name_ends Semicolon cs ≡ parts is_option is_option (split cs)
  behind_semicolon [] = refl
  behind_semicolon (c ∷ cs) = semicolon_at (is_key_octet c) (nat_eq c 59) c cs refl refl (behind_key cs)

  behind_key : (cs : List ℕ) → accepts name_step name_ends Keys cs ≡ parts (λ x. list_all is_key_octet x) is_option
      (split cs)
  behind_key [] = refl
  behind_key (c ∷ cs) = keys_at (is_key_octet c) (nat_eq c 59) c cs refl refl (behind_key cs) (behind_semicolon cs)

-- ---- behind an oid

no_semicolon : (o : OidPlace) → oid_step o 59 ≡ None
no_semicolon Letters = refl
no_semicolon Zero = refl
no_semicolon Number = refl
no_semicolon Dot = refl
no_semicolon DottedZero = refl
no_semicolon DottedNumber = refl

out_at : (b : Bool) (cs : List ℕ) → led (cond b (Some Semicolon) None) cs ≡ (b && options cs)
out_at true cs = behind_semicolon cs ∙ parts_all is_option 59 cs
out_at false cs = refl

no_out : (b : Bool) (cs : List ℕ) → led (cond b None None) cs ≡ false
no_out true cs = refl
no_out false cs = refl

name_at : (r : Option OidPlace) (p : Bool) (o : OidPlace) (c : ℕ) (cs : List ℕ) → oid_step o c ≡ r → nat_eq c 59 ≡ p
    → ((u : OidPlace) → accepts name_step name_ends (Oid u) cs ≡ described (ends_well u) cs)
    → led (within Oid (cond (oid_ends o) (cond p (Some Semicolon) None) None) r) cs
    ≡ cond p (oid_ends o && options cs) (described (λ x. holds oid_ends (option_and_then (λ t. run oid_step t x) r)) cs)
name_at (Some u) true o c cs e p h = absurd (none_some (sym (no_semicolon o) ∙ ap (oid_step o) (sym (eqb-true c 59 p))
    ∙ e))
name_at (Some u) false o c cs e p h = h u
name_at None true o c cs e p h = out_at (oid_ends o) cs
name_at None false o c cs e p h = no_out (oid_ends o) cs ∙ sym (described_never (λ x. false) (λ x. refl) cs)

behind_oid : (o : OidPlace) (cs : List ℕ) → accepts name_step name_ends (Oid o) cs ≡ described (ends_well o) cs
behind_oid o [] = refl
behind_oid o (c ∷ cs) = name_at (oid_step o c) (nat_eq c 59) o c cs refl refl (λ u. behind_oid u cs)

-- ---- descriptions

abbrev name_accepts : List ℕ → Bool
name_accepts [] = false
name_accepts (c ∷ cs) = holds name_ends (option_and_then (λ o. run name_step (Oid o) cs) (oid_first c))

first_at : (r : Option OidPlace) (p : Bool) (c : ℕ) (cs : List ℕ) → oid_first c ≡ r → nat_eq c 59 ≡ p
    → holds name_ends (option_and_then (λ o. run name_step (Oid o) cs) r) ≡ cond p (is_oid [] && options cs)
    (described (λ x. is_oid (c ∷ x)) cs)
first_at (Some o) true c cs e p = absurd (none_some (ap oid_first (sym (eqb-true c 59 p)) ∙ e))
first_at (Some o) false c cs e p = behind_oid o cs ∙ described_same (ends_well o) (λ x. is_oid (c ∷ x))
    (λ x. sym (ap (λ r. holds oid_ends (option_and_then (λ t. run oid_step t x) r)) e) ∙ oid_same (c ∷ x)) cs
first_at None true c cs e p = refl
first_at None false c cs e p = sym (described_never (λ x. is_oid (c ∷ x)) (λ x. sym (oid_same (c ∷ x))
    ∙ ap (λ r. holds oid_ends (option_and_then (λ t. run oid_step t x) r)) e) cs)

name_same : (d : List ℕ) → name_accepts d ≡ described is_oid d
name_same [] = refl
name_same (c ∷ cs) = first_at (oid_first c) (nat_eq c 59) c cs refl refl

-- ---- a description, octet by octet

pub record IsNameRun (d : List ℕ) : Type 0 where
  pub head : ℕ
  pub tail : List ℕ
  pub first : OidPlace
  pub place : NamePlace
  pub parts : d ≡ head ∷ tail
  pub begins : oid_first head ≡ Some first
  pub ran : run name_step (Oid first) tail ≡ Some place
  pub done : name_ends place ≡ true

name_run_at : (o : Option OidPlace) (c : ℕ) (cs : List ℕ) → oid_first c ≡ o →
    holds name_ends (option_and_then (λ u. run name_step (Oid u) cs) o) ≡ true → IsNameRun (c ∷ cs)
name_run_at None c cs e h = absurd (false_true h)
name_run_at (Some o) c cs e h =
    let t = takes name_step name_ends (Oid o) cs h in
    record { head = c; tail = cs; first = o; place = t.place; parts = refl; begins = e; ran = t.ran; done = t.done }

name_run_of : (d : List ℕ) → name_accepts d ≡ true → IsNameRun d
name_run_of [] h = absurd (false_true h)
name_run_of (c ∷ cs) h = name_run_at (oid_first c) c cs refl h

pub name_run : (d : List ℕ) → is_description d ≡ true → IsNameRun d
name_run d h = name_run_of d (name_same d ∙ described_is d ∙ h)

pub is_name_run : (c : ℕ) (cs : List ℕ) (o : OidPlace) (n : NamePlace) → oid_first c ≡ Some o →
    run name_step (Oid o) cs ≡ Some n → name_ends n ≡ true → is_description (c ∷ cs) ≡ true
is_name_run c cs o n e r d =
    sym (name_same (c ∷ cs) ∙ described_is (c ∷ cs))
    ∙ ap (λ x. holds name_ends (option_and_then (λ u. run name_step (Oid u) cs) x)) e ∙ ap (holds name_ends) r ∙ d
