-- Parts that are looked for, each where it first stands.
use Rattle.std.proofs.Common.{ℕ, suc, ◌+◌, add-one, drop-cons, ◌-◌, ◌<◌, ◌≤◌, List, [], ◌∷◌, ◌++◌, Bool, true, false, length, take, drop, get_or, Option, None, Some, ◌≡◌, refl, ap, sym, subst, ◌∙◌, ◌↔◌, append_assoc, length-append, length-drop, take-append-drop, arith}
use Rattle.std.proofs.Math.Seq.{drop-append_seam, take-append_seam}
use Rattle.std.proofs.lemmas.List.{append_cancel_left, append_cancel_right, take_all, drop_all, length-take-le}
use Rattle.std.proofs.lemmas.Slice.Eq.{bytes_eq-Decides}
use Rattle.std.specs.Str.{bytes_eq}
use Rattle.std.specs.Option.{MatchOption}
use Rattle.std.specs.Prelude.{IsTrue}
use Rattle.memchr.specs.Find.{OccursAt, Nowhere, NoneBefore}
use Rattle.memchr.proofs.lemmas.MatchLemmas.{OccursAt-split, OccursAt-from_part}
use Rattle.ldap_syntax.specs.Parts.{Stands, StandInOrder, HasParts, part_or_nothing}

-- two ways to cut one list: what is cut off no later ends in what the other cuts off
pub cut_later : (x a y b : List ℕ) → x ++ a ≡ y ++ b → length x ≤ length y → (z : List ℕ) × (a ≡ z ++ b)
cut_later [] a y b e h = (y, e)
cut_later (c ∷ x) a [] b e h = absurd (omega arith)
cut_later (c ∷ x) a (d ∷ y) b e h = cut_later x a y b (cc) (omega arith)

regroup : (z b q a : List ℕ) → z ++ (b ++ q ++ a) ≡ (z ++ b) ++ q ++ a
regroup z b q a = simp append_assoc

-- what stands in the rest of a text stands in the text
pub later : (qs : List (List ℕ)) (z w : List ℕ) → StandInOrder qs w → StandInOrder qs (z ++ w)
later [] z w s = tt
later (q ∷ qs) z w s = record {
  before = z ++ s.before;
  after = s.after;
  place = ap (λ (x : List ℕ). z ++ x) s.place ∙ regroup z s.before q s.after;
  then = s.then;
}

-- two searches that find, or both do not
pub record SameSearch (ps qs : List (List ℕ)) (h g : List ℕ) : Type 0 where
  pub there : StandInOrder ps h → StandInOrder qs g
  pub back : StandInOrder qs g → StandInOrder ps h

pub begins : (ps : List (List ℕ)) (h : List ℕ) → SameSearch ps ps h h
begins ps h = record { there = λ s. s; back = λ s. s }

-- a part may be taken where it first stands
pub goes_on : (ps qs : List (List ℕ)) (p h g after x : List ℕ) → SameSearch ps (p ∷ qs) h g → g ≡ x ++ p ++ after →
    ((b a : List ℕ) → g ≡ b ++ p ++ a → length x ≤ length b) → SameSearch ps qs h after
goes_on ps qs p h g after x s e first = record {
  there = λ d.
      let t : Stands p (StandInOrder qs) g = s.there d in
      let no_later : length x ≤ length t.before = first t.before t.after t.place in
      let z = cut_later (x ++ p) after (t.before ++ p) t.after (sym e ∙ t.place)
      (omega (arith, length-append x p, length-append t.before p)) in
      subst (StandInOrder qs) (sym z.1) (later qs z.0 t.after t.then);
  back = λ d. s.back (record { before = x; after = after; place = e; then = d });
}

pub ends : (ps : List (List ℕ)) (h g : List ℕ) → SameSearch ps [] h g → IsTrue true ↔ StandInOrder ps h
ends ps h g s = (λ _. s.back tt, λ _. refl)

pub fails : (ps qs : List (List ℕ)) (p h g : List ℕ) → SameSearch ps (p ∷ qs) h g →
    ((b a : List ℕ) → g ≡ b ++ p ++ a → ⊥) → IsTrue false ↔ StandInOrder ps h
fails ps qs p h g s none = (
  λ t. absurd (cc),
  λ d. let t : Stands p (StandInOrder qs) g = s.there d in absurd (none t.before t.after t.place),
)

-- places of a needle
pub occurs : (h b p a : List ℕ) → h ≡ b ++ p ++ a → OccursAt h p (length b)
occurs h b p a e =
    let whole : h ≡ b ++ (p ++ a) = e ∙ append_assoc b p a in
    let behind : drop (length b) h ≡ p ++ a = ap (drop (length b)) whole ∙ drop-append_seam b (p ++ a) in
    let long : length h ≡ length b + (length p + length a) = ap length whole ∙ length-append b (p ++ a)
    ∙ ap (λ (n : ℕ). length b + n) (length-append p a) in
    OccursAt-from_part h p (length b) (omega (arith, long)) (ap (take (length p)) behind ∙ take-append_seam p a)

pub nowhere : (h p : List ℕ) → Nowhere (OccursAt h p) 0 (length h + 1) → (b a : List ℕ) → h ≡ b ++ p ++ a → ⊥
nowhere h p none b a e =
    let long : length h ≡ length (b ++ p) + length a = ap length e ∙ length-append (b ++ p) a in
    none (length b) (omega arith) (omega (arith, long, length-append b p)) (occurs h b p a e)

-- what stands round the first place of a needle
pub record Cuts (h p rest : List ℕ) : Type 0 where
  pub before : List ℕ
  pub place : h ≡ before ++ p ++ rest
  pub first : (b a : List ℕ) → h ≡ b ++ p ++ a → length before ≤ length b

first_place : (h p : List ℕ) (at : ℕ) → NoneBefore (OccursAt h p) 0 (length h + 1) at → (b a : List ℕ) →
    h ≡ b ++ p ++ a → (length b < at → ⊥)
first_place h p at none b a e l = none.before (length b) (omega arith) l (occurs h b p a e)

pub found : (h p : List ℕ) (at : ℕ) → NoneBefore (OccursAt h p) 0 (length h + 1) at → OccursAt h p at →
    Cuts h p (drop (at + length p) h)
found h p at none here = record {
  before = take at h;
  place = sym (take-append-drop at h) ∙ ap (λ (x : List ℕ). take at h ++ x) (OccursAt-split h p at here)
      ∙ sym (append_assoc (take at h) p (drop (at + length p) h));
  first = λ b a e. let not = first_place h p at none b a e in let n : length (take at h) ≡ at = length-take-le at h
      (omega (arith, here.fits)) in omega (arith, n, not);
}

-- a part at the start and a part at the end
pub front_is : (h p : List ℕ) → bytes_eq (take (length p) h) p ≡ true → h ≡ p ++ drop (length p) h
front_is h p e = sym (take-append-drop (length p) h) ∙ ap (λ (x : List ℕ). x ++ drop (length p) h)
    ((bytes_eq-Decides (take (length p) h) p).0 e)

pub front_is_not : (h p x : List ℕ) → bytes_eq (take (length p) h) p ≡ false → h ≡ p ++ x → ⊥
front_is_not h p x e w =
    let yes : bytes_eq (take (length p) h) p ≡ true = (bytes_eq-Decides (take (length p) h) p).1
    (ap (take (length p)) w ∙ take-append_seam p x) in
    absurd (cc)

pub back_is : (h p : List ℕ) → bytes_eq (drop (length h - length p) h) p ≡ true → h ≡ take (length h - length p) h ++ p
back_is h p e = sym (take-append-drop (length h - length p) h)
    ∙ ap (λ (x : List ℕ). take (length h - length p) h ++ x) ((bytes_eq-Decides (drop (length h - length p) h) p).0 e)

seam_at : (h x p : List ℕ) (n : ℕ) → h ≡ x ++ p → n ≡ length x → drop n h ≡ p
seam_at h x p n w e = rw (w, e) (drop-append_seam x p)

pub back_is_not : (h p x : List ℕ) → bytes_eq (drop (length h - length p) h) p ≡ false → h ≡ x ++ p → ⊥
back_is_not h p x e w =
    let long : length h ≡ length x + length p = ap length w ∙ length-append x p in
    let yes : bytes_eq (drop (length h - length p) h) p ≡ true = (bytes_eq-Decides (drop (length h - length p) h) p).1
    (seam_at h x p (length h - length p) w (omega (arith, long))) in
    absurd (cc)

-- the ends are cut off, and the rest is what stands between
pub whole : (io fo : Option (List ℕ)) (any : List (List ℕ)) (h i f rest middle : List ℕ) (r : Bool) →
    i ≡ part_or_nothing io → f ≡ part_or_nothing fo → h ≡ i ++ rest → rest ≡ middle ++ f → IsTrue r ↔ StandInOrder any
    middle → IsTrue r ↔ HasParts io any fo h
whole io fo any h i f rest middle r ei ef eh er s = (
  λ t. record {
    middle = middle;
    ends = eh ∙ ap (λ (x : List ℕ). i ++ x) er ∙ sym (append_assoc i middle f) ∙ rw (ei, ef) refl;
    between = s.0 t;
  },
  λ d. s.1 (subst (StandInOrder any) (between_is io fo any h i f rest middle ei ef eh er d) d.between),
) where
  between_is : (io fo : Option (List ℕ)) (any : List (List ℕ)) (h i f rest middle : List ℕ) → i ≡ part_or_nothing io →
      f ≡ part_or_nothing fo → h ≡ i ++ rest → rest ≡ middle ++ f → (d : HasParts io any fo h) → d.middle ≡ middle
  between_is io fo any h i f rest middle ei ef eh er d =
      let all : i ++ (middle ++ f) ≡ i ++ (d.middle ++ f) = ap (λ (x : List ℕ). i ++ x) (sym er) ∙ sym eh ∙ d.ends
      ∙ rw (ei, ef) (append_assoc (part_or_nothing io) d.middle (part_or_nothing fo)) in
      sym (append_cancel_right middle d.middle f (append_cancel_left i (middle ++ f) (d.middle ++ f) all))

pub no_front : (io fo : Option (List ℕ)) (any : List (List ℕ)) (h i : List ℕ) → i ≡ part_or_nothing io →
    ((x : List ℕ) → h ≡ i ++ x → ⊥) → IsTrue false ↔ HasParts io any fo h
no_front io fo any h i ei none = (
  λ t. absurd (cc),
  λ d. absurd (none (d.middle ++ part_or_nothing fo) (d.ends
      ∙ rw ei (append_assoc (part_or_nothing io) d.middle (part_or_nothing fo)))),
)

pub no_back : (io fo : Option (List ℕ)) (any : List (List ℕ)) (h i f rest : List ℕ) → i ≡ part_or_nothing io →
    f ≡ part_or_nothing fo → h ≡ i ++ rest → ((x : List ℕ) → rest ≡ x ++ f → ⊥) → IsTrue false ↔ HasParts io any fo h
no_back io fo any h i f rest ei ef eh none = (
  λ t. absurd (cc),
  λ d. absurd (none d.middle (append_cancel_left i rest (d.middle ++ f) (sym eh ∙ d.ends
      ∙ rw (ei, ef) (append_assoc (part_or_nothing io) d.middle (part_or_nothing fo))))),
)

-- what a search answers, at the values of its calls
pub found_rest : (h p : List ℕ) (at : ℕ) → NoneBefore (OccursAt h p) 0 (length h + 1) at → OccursAt h p at →
    (x : List ℕ) × (h ≡ x ++ p ++ take (length h - (at + length p)) (drop (at + length p) h))
    × ((b a : List ℕ) → h ≡ b ++ p ++ a → length x ≤ length b)
found_rest h p at none here =
    let cut = found h p at none here in (
      cut.before,
      cut.place ∙ ap (λ (x : List ℕ). cut.before ++ p ++ x) (sym (take_all (length h - (at + length p))
          (drop (at + length p) h) (omega (arith, length-drop (at + length p) h)))),
      cut.first,
    )

pub match_weaker : {A : Type 0} (o : Option A) {P P' : Type 0} {Q Q' : A → Type 0} → MatchOption o P Q → (P → P') →
    ((x : A) → Q x → Q' x) → MatchOption o P' Q'
match_weaker None m f g = f m
match_weaker (Some x) m f g = g x m

pub next_is : (ps : List (List ℕ)) (i : ℕ) (p : List ℕ) → i < length ps → p ≡ get_or ps i p →
    drop i ps ≡ p ∷ drop (i + 1) ps
next_is ps i p h e = rw (add-one, drop-cons ps i p) (ap (λ (x : List ℕ). x ∷ drop (suc i) ps) (sym e))

pub goes_on_at : (ps : List (List ℕ)) (i : ℕ) (p q h g after : List ℕ) → i < length ps → p ≡ get_or ps i p → q ≡ p →
    SameSearch ps (drop i ps) h g
    → (x : List ℕ) × (g ≡ x ++ q ++ after) × ((b a : List ℕ) → g ≡ b ++ q ++ a → length x ≤ length b) →
    SameSearch ps (drop (i + 1) ps) h after
goes_on_at ps i p q h g after l e eq s cut =
    let t : SameSearch ps (q ∷ drop (i + 1) ps) h g = subst (λ (qs : List (List ℕ)). SameSearch ps qs h g)
    (next_is ps i p l e ∙ ap (λ (x : List ℕ). x ∷ drop (i + 1) ps) (sym eq)) s in
    goes_on ps (drop (i + 1) ps) q h g after cut.0 t cut.1 cut.2

pub fails_at : (ps : List (List ℕ)) (i : ℕ) (p q h g : List ℕ) → i < length ps → p ≡ get_or ps i p → q ≡ p →
    SameSearch ps (drop i ps) h g
    → ((b a : List ℕ) → g ≡ b ++ q ++ a → ⊥) → IsTrue false ↔ StandInOrder ps h
fails_at ps i p q h g l e eq s none =
    let t : SameSearch ps (q ∷ drop (i + 1) ps) h g = subst (λ (qs : List (List ℕ)). SameSearch ps qs h g)
    (next_is ps i p l e ∙ ap (λ (x : List ℕ). x ∷ drop (i + 1) ps) (sym eq)) s in
    fails ps (drop (i + 1) ps) q h g t none

pub ends_at : (ps : List (List ℕ)) (i : ℕ) (h g : List ℕ) → length ps ≤ i → SameSearch ps (drop i ps) h g →
    IsTrue true ↔ StandInOrder ps h
ends_at ps i h g l s = ends ps h g (subst (λ (qs : List (List ℕ)). SameSearch ps qs h g) (drop_all i ps l) s)
