-- Whether a number is among those of a range is told by its own entry.
use Rattle.std.proofs.Common.{◌≡◌, ℕ, List, [], ◌∷◌, refl, sym, ap, ◌∙◌, subst, arith, Bool, true, false, Option, None, Some, nat_eq, map, filter}
use Rattle.std.specs.Prelude.{◌||◌, cond}
use Rattle.std.specs.Option.{option_map}
use Rattle.std.proofs.lemmas.Bool.{eqb-true, ne_eqb}
use Rattle.dir_index.specs.dir_entry.Entry.{KeyedAttribute}
use Rattle.dir_index.specs.Postings.{Indexed, has_number, numbers_where}
use Rattle.directory_api.specs.dir_tree.Directory.{Entered, entry_at, AllAbove, NumbersRise}
use Rattle.indexed_tree.specs.Listed.{listed, listed_of}

-- what a test says of an entry; no, where there is none
abbrev pub passes : (List KeyedAttribute → Bool) → Option Entered → Bool
passes p None = false
passes p (Some e) = p e.entry

module _ (p : List KeyedAttribute → Bool) where
  none_above : (k : ℕ) (d : List Entered) → AllAbove k d → has_number k (numbers_where p (listed_of d)) ≡ false
  none_above k [] h = refl
  none_above k (e ∷ d) h = by (p e.entry) (none_above k d h.1)
    where
      by : (b : Bool) → has_number k (numbers_where p (listed_of d)) ≡ false →
          has_number k (map (λ (i : Indexed). i.number)
          (cond b (listed e ∷ filter (λ (i : Indexed). p i.entry) (listed_of d)) (filter (λ (i : Indexed). p i.entry)
          (listed_of d)))) ≡ false
      by true ih = ap (λ (x : Bool). x || has_number k (numbers_where p (listed_of d)))
          (ne_eqb k e.number (λ f. absurd (omega (arith, h.0, f)))) ∙ ih
      by false ih = ih

  pub told_by_entry : (k : ℕ) (d : List Entered) → NumbersRise d → has_number k (numbers_where p (listed_of d)) ≡
      passes p (entry_at k d)
  told_by_entry k [] r = refl
  told_by_entry k (e ∷ d) r = by (nat_eq k e.number) (p e.entry) refl refl (told_by_entry k d r.1)
    where
      by : (same here : Bool) → nat_eq k e.number ≡ same → p e.entry ≡ here →
          has_number k (numbers_where p (listed_of d)) ≡ passes p (entry_at k d)
          → has_number k (map (λ (i : Indexed). i.number)
          (cond here (listed e ∷ filter (λ (i : Indexed). p i.entry) (listed_of d))
          (filter (λ (i : Indexed). p i.entry) (listed_of d)))) ≡ passes p (cond same (Some e) (entry_at k d))
      by true true f g ih = ap (λ (x : Bool). x || has_number k (numbers_where p (listed_of d))) f ∙ sym g
      by true false f g ih = none_above k d (subst (λ (n : ℕ). AllAbove n d) (sym (eqb-true k e.number f)) r.0) ∙ sym g
      by false true f g ih = ap (λ (x : Bool). x || has_number k (numbers_where p (listed_of d))) f ∙ ih
      by false false f g ih = ih

  pub told_by_held : (k : ℕ) (d : List Entered) (a : List KeyedAttribute) → NumbersRise d →
      Some a ≡ option_map (λ (e : Entered). e.entry) (entry_at k d) → has_number k (numbers_where p (listed_of d)) ≡ p a
  told_by_held k d a r h = told_by_entry k d r ∙ by (entry_at k d) h
    where
      by : (o : Option Entered) → Some a ≡ option_map (λ (e : Entered). e.entry) o → passes p o ≡ p a
      by None g = absurd (cc g)
      by (Some e) g = let same : e.entry ≡ a = cc g in ap p same

  pub told_by_none : (k : ℕ) (d : List Entered) → NumbersRise d → ◌≡◌ {A = Option (List KeyedAttribute)} None
      (option_map (λ (e : Entered). e.entry) (entry_at k d)) → has_number k (numbers_where p (listed_of d)) ≡ false
  told_by_none k d r h = told_by_entry k d r ∙ by (entry_at k d) h
    where
      by : (o : Option Entered) → ◌≡◌ {A = Option (List KeyedAttribute)} None (option_map (λ (e : Entered). e.entry)
          o) → passes p o ≡ false
      by None g = refl
      by (Some e) g = absurd (cc g)
