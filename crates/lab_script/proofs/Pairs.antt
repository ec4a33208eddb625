-- The first colon with a space behind it, octet by octet.
use Rattle.std.proofs.Common.{◌≡◌, ℕ, suc, ◌+◌, ◌-◌, ◌<◌, ◌≤◌, List, [], ◌∷◌, ◌++◌, length, take, drop, get_or, Bool, cond, true, false, Option, Some, None, option_map, refl, sym, ap, ap₂, ◌∙◌, arith, add-one, drop-cons, length-drop, append_assoc, append-nil}
use Rattle.std.proofs.Math.Seq.{take-suc}
use Rattle.std.proofs.lemmas.List.{drop_all, take_all}
use Rattle.lab_script.specs.Cuts.{Cut, begins_value, onto, cut_pair}

-- more at the front of a cut, if there is one
abbrev pub over : List ℕ → Option Cut → Option Cut
over more o = option_map (onto more) o

-- nothing more
pub over_nothing : (o : Option Cut) → over [] o ≡ o
over_nothing None = refl
over_nothing (Some k) = refl

-- one more behind others
over_one : (xs : List ℕ) (x : ℕ) (o : Option Cut) → over xs (over (x ∷ []) o) ≡ over (xs ++ x ∷ []) o
over_one xs x None = refl
over_one xs x (Some k) = ap (λ (f : List ℕ). Some (record { front = f; behind = k.behind }))
    (sym (append_assoc xs (x ∷ []) k.front))

-- by whether a colon and a space begin
by : (b : Bool) (c : ℕ) (cs : List ℕ) → begins_value (c ∷ cs) ≡ b → cut_pair (c ∷ cs) ≡
    cond b (Some (record { front = []; behind = drop 1 cs })) (over (c ∷ []) (cut_pair cs))
by b c cs e = ap (λ v. cond v (Some (record { front = []; behind = drop 1 cs })) (over (c ∷ []) (cut_pair cs))) e

-- the same at a place
begins_there : (text : List ℕ) (i : ℕ) (b : Bool) → i < length text → begins_value (drop i text) ≡ b →
    begins_value (get_or text i 0 ∷ drop (suc i) text) ≡ b
begins_there text i b lt e = sym (ap begins_value (drop-cons text i 0 lt)) ∙ e

-- Another octet, where they don't begin.
pub pair_more : (text : List ℕ) (i : ℕ) → over (take i text) (cut_pair (drop i text)) ≡ cut_pair text →
    i < length text → begins_value (drop i text) ≡ false → over (take (i + 1) text) (cut_pair (drop (i + 1) text)) ≡
    cut_pair text
pair_more text i h lt other =
    ap (λ (k : ℕ). over (take k text) (cut_pair (drop k text))) (add-one i)
    ∙ ap (λ (l : List ℕ). over l (cut_pair (drop (suc i) text))) (take-suc text i 0 lt)
    ∙ sym (over_one (take i text) (get_or text i 0) (cut_pair (drop (suc i) text)))
    ∙ sym (ap (over (take i text)) (ap cut_pair (drop-cons text i 0 lt) ∙ by false (get_or text i 0)
    (drop (suc i) text) (begins_there text i false lt other)))
    ∙ h

-- Here they begin.
pub pair_here : (text front behind : List ℕ) (i : ℕ) → over (take i text) (cut_pair (drop i text)) ≡ cut_pair text →
    i < length text → begins_value (drop i text) ≡ true → front ≡ take i text → behind ≡ drop 2 (drop i text) →
    cut_pair text ≡ Some (record { front = front; behind = behind })
pair_here text front behind i h lt here is_front is_behind =
    sym h ∙ ap (over (take i text)) (ap cut_pair (drop-cons text i 0 lt) ∙ by true (get_or text i 0)
    (drop (suc i) text) (begins_there text i true lt here))
    ∙ ap₂ (λ (f : List ℕ) (b : List ℕ). Some (record { front = f; behind = b })) (append-nil (take i text)
    ∙ sym is_front) (sym (is_behind ∙ ap (drop 2) (drop-cons text i 0 lt)))

-- They begin nowhere.
pub pair_none : (text : List ℕ) (i : ℕ) → over (take i text) (cut_pair (drop i text)) ≡ cut_pair text →
    length text ≤ i → cut_pair text ≡ None
pair_none text i h le = sym h ∙ ap (λ (l : List ℕ). over (take i text) (cut_pair l)) (drop_all i text le)

-- All behind a place is what stands from there on.
pub all_behind : (text : List ℕ) (i : ℕ) → take (length text - i) (drop i text) ≡ drop i text
all_behind text i = take_all (length text - i) (drop i text) (omega (arith, length-drop i text))
