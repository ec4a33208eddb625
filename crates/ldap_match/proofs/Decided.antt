-- The test for parts against the statement that they stand in order.
use Rattle.std.proofs.Common.{ℕ, ◌-◌, List, [], ◌∷◌, ◌++◌, Bool, true, false, ◌&&◌, ◌||◌, Option, ◌≡◌, ◌↔◌, refl, ap, ap₂, sym, ◌∙◌, length, take, drop, append_assoc, length-append, take-append-drop, arith}
use Rattle.std.proofs.Math.Seq.{drop-append_seam, take-append_seam}
use Rattle.std.specs.Bool.{Decides}
use Rattle.std.proofs.lemmas.Bool.Decides.{same_from_decides}
use Rattle.std.specs.List.{list_any}
use Rattle.std.proofs.lemmas.Slice.Eq.{bytes_eq-Decides}
use Rattle.ldap_dn.specs.ldap_syntax.Parts.{StandInOrder, HasParts, part_or_nothing}
use Rattle.ldap_match.specs.Parts.{PartsModel, is_at_start, is_at_end, tails, are_in_order, has_parts}

-- a conjunction that is true, taken apart
pub and_left : (a b : Bool) → (a && b) ≡ true → a ≡ true
and_left true b h = refl
and_left false b h = absurd (cc)

pub and_right : (a b : Bool) → (a && b) ≡ true → b ≡ true
and_right true b h = h
and_right false b h = absurd (cc)

start_yes : (p w : List ℕ) → is_at_start p w ≡ true → w ≡ p ++ drop (length p) w
start_yes p w h = sym (take-append-drop (length p) w) ∙ ap (λ (x : List ℕ). x ++ drop (length p) w)
    ((bytes_eq-Decides (take (length p) w) p).0 h)

start_no : (p r : List ℕ) → is_at_start p (p ++ r) ≡ true
start_no p r = (bytes_eq-Decides (take (length p) (p ++ r)) p).1 (take-append_seam p r)

end_yes : (p w : List ℕ) → is_at_end p w ≡ true → w ≡ take (length w - length p) w ++ p
end_yes p w h = sym (take-append-drop (length w - length p) w)
    ∙ ap (λ (x : List ℕ). take (length w - length p) w ++ x) ((bytes_eq-Decides (drop (length w - length p) w) p).0 h)

before_end : (p m : List ℕ) → length (m ++ p) - length p ≡ length m
before_end p m = omega (arith, length-append m p)

end_no : (p m : List ℕ) → is_at_end p (m ++ p) ≡ true
end_no p m = (bytes_eq-Decides (drop (length (m ++ p) - length p) (m ++ p)) p).1 (ap (λ (n : ℕ). drop n (m ++ p))
    (before_end p m) ∙ drop-append_seam m p)

middle_is : (p m : List ℕ) → take (length (m ++ p) - length p) (m ++ p) ≡ m
middle_is p m = ap (λ (n : ℕ). take n (m ++ p)) (before_end p m) ∙ take-append_seam m p

both : (a b : Bool) → a ≡ true → b ≡ true → (a && b) ≡ true
both a b h k = ap₂ (λ (x y : Bool). x && y) h k

-- one of the tails passes
pub record Passes (f : List ℕ → Bool) (w : List ℕ) : Type 0 where
  pub before : List ℕ
  pub rest : List ℕ
  pub parts : w ≡ before ++ rest
  pub passes : f rest ≡ true

pass_further : (f : List ℕ → Bool) (x : ℕ) (w : List ℕ) → Passes f w → Passes f (x ∷ w)
pass_further f x w p = record {
  before = x ∷ p.before;
  rest = p.rest;
  parts = ap (λ (y : List ℕ). x ∷ y) p.parts;
  passes = p.passes;
}

tail_or : (f : List ℕ → Bool) (x : ℕ) (w : List ℕ) (a b : Bool) → f (x ∷ w) ≡ a → (b ≡ true → Passes f w) →
    (a || b) ≡ true → Passes f (x ∷ w)
tail_or f x w true b e k h = record { before = []; rest = x ∷ w; parts = refl; passes = e }
tail_or f x w false b e k h = pass_further f x w (k h)

last_or : (f : List ℕ → Bool) (a : Bool) → f [] ≡ a → (a || false) ≡ true → Passes f []
last_or f true e h = record { before = []; rest = []; parts = refl; passes = e }
last_or f false e h = absurd (cc)

tails_yes : (f : List ℕ → Bool) (w : List ℕ) → list_any f (tails w) ≡ true → Passes f w
tails_yes f [] h = last_or f (f []) refl h
tails_yes f (x ∷ w) h = tail_or f x w (f (x ∷ w)) (list_any f (tails w)) refl (tails_yes f w) h

or_left : (a b : Bool) → a ≡ true → (a || b) ≡ true
or_left a b h = ap (λ (x : Bool). x || b) h

or_right : (a b : Bool) → b ≡ true → (a || b) ≡ true
or_right true b h = refl
or_right false b h = h

tails_here : (f : List ℕ → Bool) (w : List ℕ) → f w ≡ true → list_any f (tails w) ≡ true
tails_here f [] h = or_left (f []) false h
tails_here f (x ∷ w) h = or_left (f (x ∷ w)) (list_any f (tails w)) h

tails_no : (f : List ℕ → Bool) (before rest : List ℕ) → f rest ≡ true → list_any f (tails (before ++ rest)) ≡ true
tails_no f [] rest h = tails_here f rest h
tails_no f (x ∷ before) rest h = or_right (f (x ∷ before ++ rest)) (list_any f (tails (before ++ rest)))
    (tails_no f before rest h)

order_yes : (ps : List (List ℕ)) (w : List ℕ) → are_in_order ps w ≡ true → StandInOrder ps w
order_yes [] w h = tt
order_yes (p ∷ ps) w h =
    let t = tails_yes (λ rest. is_at_start p rest && are_in_order ps (drop (length p) rest)) w h in
    let front = start_yes p t.rest (and_left (is_at_start p t.rest) (are_in_order ps (drop (length p) t.rest))
    t.passes) in
    record {
      before = t.before;
      after = drop (length p) t.rest;
      place = t.parts ∙ ap (λ (x : List ℕ). t.before ++ x) front
          ∙ sym (append_assoc t.before p (drop (length p) t.rest));
      then = order_yes ps (drop (length p) t.rest) (and_right (is_at_start p t.rest)
          (are_in_order ps (drop (length p) t.rest)) t.passes);
    }

order_no : (ps : List (List ℕ)) (w : List ℕ) → StandInOrder ps w → are_in_order ps w ≡ true
order_no [] w s = refl
order_no (p ∷ ps) w s =
    let f : List ℕ → Bool = λ rest. is_at_start p rest && are_in_order ps (drop (length p) rest) in
    let after : are_in_order ps (drop (length p) (p ++ s.after)) ≡ true = ap (are_in_order ps)
    (drop-append_seam p s.after) ∙ order_no ps s.after s.then in
    ap (λ (x : List ℕ). list_any (λ rest. is_at_start p rest && are_in_order ps (drop (length p) rest)) (tails x))
    (s.place ∙ append_assoc s.before p s.after)
    ∙ tails_no (λ rest. is_at_start p rest && are_in_order ps (drop (length p) rest)) s.before (p ++ s.after)
    (both (is_at_start p (p ++ s.after)) (are_in_order ps (drop (length p) (p ++ s.after))) (start_no p s.after)
    after)

parts_yes : (p : PartsModel) (w : List ℕ) → has_parts p w ≡ true → HasParts p.initial p.any p.last w
parts_yes p w h =
    let i = part_or_nothing p.initial in
    let l = part_or_nothing p.last in
    let rest = drop (length i) w in
    let middle = take (length rest - length l) rest in
    let front : w ≡ i ++ rest = start_yes i w (and_left (is_at_start i w) (is_at_end l rest
    && are_in_order p.any middle) h) in
    let behind : (is_at_end l rest && are_in_order p.any middle) ≡ true = and_right (is_at_start i w)
    (is_at_end l rest && are_in_order p.any middle) h in
    let back : rest ≡ middle ++ l = end_yes l rest (and_left (is_at_end l rest) (are_in_order p.any middle) behind) in
    record {
      middle = middle;
      ends = front ∙ ap (λ (x : List ℕ). i ++ x) back ∙ sym (append_assoc i middle l);
      between = order_yes p.any middle (and_right (is_at_end l rest) (are_in_order p.any middle) behind);
    }

-- the test on a text that is cut like this
cut_test : (p : PartsModel) (i m l : List ℕ) → part_or_nothing p.initial ≡ i → part_or_nothing p.last ≡ l →
    are_in_order p.any m ≡ true → has_parts p (i ++ (m ++ l)) ≡ true
cut_test p i m l e f h =
    let r : drop (length i) (i ++ (m ++ l)) ≡ m ++ l = drop-append_seam i (m ++ l) in
    let back : (is_at_end l (m ++ l) && are_in_order p.any (take (length (m ++ l) - length l) (m ++ l))) ≡ true =
    both (is_at_end l (m ++ l)) (are_in_order p.any (take (length (m ++ l) - length l) (m ++ l))) (end_no l m)
    (ap (are_in_order p.any) (middle_is l m) ∙ h) in
    rw (e, f, r) (both (is_at_start i (i ++ (m ++ l))) (is_at_end l (m ++ l)
    && are_in_order p.any (take (length (m ++ l) - length l) (m ++ l))) (start_no i (m ++ l)) back)

parts_no : (p : PartsModel) (w : List ℕ) → HasParts p.initial p.any p.last w → has_parts p w ≡ true
parts_no p w h =
    ap (has_parts p) (h.ends ∙ append_assoc (part_or_nothing p.initial) h.middle (part_or_nothing p.last))
    ∙ cut_test p (part_or_nothing p.initial) h.middle (part_or_nothing p.last) refl refl
    (order_no p.any h.middle h.between)

pub parts_decides : (p : PartsModel) (w : List ℕ) → Decides (has_parts p w) (HasParts p.initial p.any p.last w)
parts_decides p w = (parts_yes p w, parts_no p w)

abbrev pub these : Option (List ℕ) → List (List ℕ) → Option (List ℕ) → PartsModel
these i a l = record { initial = i; any = a; last = l }

same_parts : (i l j k : Option (List ℕ)) (a b : List (List ℕ)) → i ≡ j → a ≡ b → l ≡ k → these i a l ≡ these j b k
same_parts i l j k a b e f g = ap₂ (λ (x : Option (List ℕ)) (y : List (List ℕ)). these x y l) e f ∙ ap (these j b) g

-- what stands in a key, where the parts are these
pub standing : (p : PartsModel) (i l j k : Option (List ℕ)) (a b : List (List ℕ)) (w : List ℕ) (t : Bool) →
    these j b k ≡ p → i ≡ j → a ≡ b → l ≡ k → (t ≡ true) ↔ HasParts i a l w → t ≡ has_parts p w
standing p i l j k a b w t is e f g h =
    same_from_decides {P = HasParts i a l w} t (has_parts (these i a l) w) h (parts_decides (these i a l) w)
    ∙ ap (λ (x : PartsModel). has_parts x w) (same_parts i l j k a b e f g ∙ is)
