-- Lines, one by one.
use Rattle.std.proofs.Common.{◌≡◌, ℕ, suc, ◌+◌, ◌<◌, List, [], ◌∷◌, ◌++◌, Vec, Global, map, length, take, drop, get_or, inr, refl, sym, ap, ◌∙◌, subst, arith, append_assoc, append-nil, add-one, drop-cons}
use Rattle.std.proofs.lemmas.List.{map-append, take_more}
use Rattle.dir_lab.specs.declared.events.LabEvent.{LabEvent}
use Rattle.lab_script.specs.Events.{EventValue, event_view}
use Rattle.lab_script.specs.Lines.{IsLine}
use Rattle.lab_script.specs.Script.{AreEvents, IsFirstBad}
use Rattle.lab_script.proofs.Each.{views}

-- the octets of a line that is kept in a vector
abbrev pub octets : Vec ℕ Global → List ℕ
octets v = v.items

abbrev pub all_octets : List (Vec ℕ Global) → List (List ℕ)
all_octets vs = map octets vs

-- one more line behind others
events_more : (ls : List (List ℕ)) (l : List ℕ) (es more : List EventValue) → AreEvents ls es → IsLine l more →
    AreEvents (ls ++ l ∷ []) (es ++ more)
events_more [] l es more h is = record {
  front = more;
  behind = [];
  is = is;
  are = refl;
  joined =
      ap (λ (x : List EventValue). x ++ more) h ∙ sym (append-nil more);
}
events_more (k ∷ ls) l es more h is = record {
  front = h.front;
  behind = h.behind ++ more;
  is = h.is;
  are = events_more ls l h.behind more h.are is;
  joined = ap (λ (x : List EventValue). x ++ more) h.joined ∙ append_assoc h.front h.behind more;
}

-- One more line is read.
pub line_more : (vs : List (Vec ℕ Global)) (i : ℕ) (v : Vec ℕ Global) (done found new : List LabEvent) →
    AreEvents (all_octets (take i vs)) (views done) → i < length vs → v ≡ get_or vs i v →
    IsLine v.items (views found) → new ≡ done ++ found → AreEvents (all_octets (take (i + 1) vs)) (views new)
line_more vs i v done found new h lt is names put =
    let cut : take (i + 1) vs ≡ take i vs ++ v ∷ [] = take_more vs i v lt
    ∙ ap (λ (x : Vec ℕ Global). take i vs ++ x ∷ []) (sym is) in
    let mapped : all_octets (take (i + 1) vs) ≡ all_octets (take i vs) ++ v.items ∷ [] = ap all_octets cut
    ∙ map-append octets (take i vs) (v ∷ []) in
    let seen : views new ≡ views done ++ views found = ap views put ∙ map-append event_view done found in
    subst (λ (es : List EventValue). AreEvents (all_octets (take (i + 1) vs)) es) (sym seen)
    (subst (λ (ls : List (List ℕ)). AreEvents ls (views done ++ views found)) (sym mapped)
    (events_more (all_octets (take i vs)) v.items (views done) (views found) h names))

-- a line that is there is the first of what is left
left : (vs : List (Vec ℕ Global)) (i : ℕ) (v : Vec ℕ Global) → i < length vs → v ≡ get_or vs i v →
    all_octets (drop i vs) ≡ v.items ∷ all_octets (drop (i + 1) vs)
left vs i v lt is =
    ap all_octets (drop-cons vs i v lt) ∙ ap (λ (x : Vec ℕ Global). x.items ∷ all_octets (drop (suc i) vs)) (sym is)
    ∙ sym (ap (λ (k : ℕ). v.items ∷ all_octets (drop k vs)) (add-one i))

-- A line that names something isn't the first bad one.
pub bad_later : (vs : List (Vec ℕ Global)) (i n : ℕ) (v : Vec ℕ Global) (es : List EventValue) → i < length vs →
    v ≡ get_or vs i v → IsLine v.items es → IsFirstBad (i + 1 + 2) (all_octets (drop (i + 1) vs)) n →
    IsFirstBad (i + 2) (all_octets (drop i vs)) n
bad_later vs i n v es lt is names h =
    let next : i + 1 + 2 ≡ i + 2 + 1 = omega arith in
    subst (λ (ls : List (List ℕ)). IsFirstBad (i + 2) ls n) (sym (left vs i v lt is))
    (inr (
      record { events = es; names = names },
      subst (λ (p : ℕ). IsFirstBad p (all_octets (drop (i + 1) vs))
          n) next h,
    ))
