-- The runs that a plan asks for, and the plan that asks for them.
use Rattle.std.proofs.Common.{◌≡◌, ℕ, ◌<◌, ◌≤◌, Bool, true, false, ◌&&◌, not, cond, List, [], ◌∷◌, ◌++◌, length, get_or, take, ◌+◌, nat_eq, map, Vec, Global, refl, sym, ap, ap₂, subst, ◌∙◌, append_assoc, arith, Result, Ok, Err, IfOk}
use Rattle.std.proofs.lemmas.List.{append-nil, take_more}
use Rattle.std.proofs.lemmas.Bool.{le-ltb}
use Rattle.std.specs.List.{list_all}
use Rattle.ldap_eval.specs.ldap_syntax.Parts.{part_or_nothing}
use Rattle.ldap_eval.specs.ldap_match.Parts.{PartsModel}
use Rattle.ldap_eval.specs.ldap_match.Truth.{truth_of}
use Rattle.ldap_eval.specs.ldap_match.declared.truth.Truth.TheVariants.{True, False}
use Rattle.ldap_eval.specs.ldap_match.declared.testing.Test.{Test}
use Rattle.ldap_eval.specs.ldap_match.declared.testing.Test.TheVariants as test
use Rattle.ldap_eval.specs.dir_entry.Entry.{KeyedAttribute}
use Rattle.dir_index.specs.index_choice.declared.kinds.Kinds.{Kinds}
use Rattle.dir_index.specs.index_choice.Choice.{kinds_of}
use Rattle.dir_index.specs.Postings.{some_key, stands_in}
use Rattle.dir_index.specs.declared.posting.Posting.TheVariants as posting
use Rattle.search_plans.specs.Sets.{holds}
use Rattle.search_plans.specs.declared.plan.Plan.{Plan}
use Rattle.search_plans.specs.declared.plan.Plan.TheVariants as plan
use Rattle.search_plans.proofs.PlanEquations.{in_plan-Posting, in_plan-Inter, in_plan-Empty}
use Rattle.ldap_eval.specs.Bound.{leaf_value}
use Rattle.ldap_eval.specs.declared.bound.Leaf.{Leaf}
use Rattle.search_plans.specs.Bounds.{Bounds, is_test_decided}
use Rattle.search_plans.specs.OctetRuns.{runs_of, runs_of_all, parts_of, is_among, with_run, with_runs, asked_runs, has_runs, has_runs_of_test}
use Rattle.search_plans.specs.private.OctetRuns.{run_plans}
use Rattle.search_plans.proofs.LeafValues.{leaf_as, of_true, leaf_unknown, leaf_two_valued, test_holds, bounds_flip}
use Rattle.search_plans.proofs.LeafPlans.{and_kept, unknown_not_true}
use Rattle.search_plans.proofs.PartRuns.{asked_all, parts_entry}
use Rattle.search_plans.proofs.Standing.{and_parts, and_from, or_right as or_late}

runs_short : (x : List ℕ) → length x < 3 → runs_of x ≡ []
runs_short [] h = refl
runs_short (a ∷ []) h = refl
runs_short (a ∷ b ∷ []) h = refl
runs_short (a ∷ b ∷ c ∷ x) h = absurd (omega arith)

-- a rest that is shorter than a run adds none
pub runs_end : (gs all_of_them : List (List ℕ)) (rest : List ℕ) → length rest < 3 → with_runs gs (runs_of rest) ≡
    all_of_them → gs ≡ all_of_them
runs_end gs all_of_them rest short h = ap (with_runs gs) (sym (runs_short rest short)) ∙ h

full_run : (gs : List (List ℕ)) (x : List ℕ) → 64 ≤ length gs → with_run gs x ≡ gs
full_run gs x h = ap (λ (b : Bool). cond (b && not (is_among x gs)) (gs ++ x ∷ []) gs) (le-ltb (length gs) 64 h)

full : (gs xs : List (List ℕ)) → 64 ≤ length gs → with_runs gs xs ≡ gs
full gs [] h = refl
full gs (x ∷ xs) h = ap (λ (hs : List (List ℕ)). with_runs hs xs) (full_run gs x h) ∙ full gs xs h

-- where they are as many as a plan asks for, no more are added
pub runs_full : (gs all_of_them xs : List (List ℕ)) → 64 ≤ length gs → with_runs gs xs ≡ all_of_them → gs ≡ all_of_them
runs_full gs all_of_them xs h e = sym (full gs xs h) ∙ e

-- runs behind runs, one after the other
pub runs_join : (gs xs ys : List (List ℕ)) → with_runs gs (xs ++ ys) ≡ with_runs (with_runs gs xs) ys
runs_join gs [] ys = refl
runs_join gs (x ∷ xs) ys = runs_join (with_run gs x) xs ys

runs_push : (ps : List (List ℕ)) (p : List ℕ) → runs_of_all (ps ++ p ∷ []) ≡ runs_of_all ps ++ runs_of p
runs_push [] p = append-nil (runs_of p)
runs_push (x ∷ ps) p = ap (λ (gs : List (List ℕ)). runs_of x ++ gs) (runs_push ps p)
    ∙ sym (append_assoc (runs_of x) (runs_of_all ps) (runs_of p))

-- one more part's runs behind those of the parts before
pub runs_more : (first old new xs : List (List ℕ)) (i : ℕ) (x y : List ℕ) → i < length xs → x ≡ get_or xs i x → y ≡ x
    → old ≡ with_runs first (runs_of_all (take i xs)) → new ≡ with_runs old (runs_of y) →
    new ≡ with_runs first (runs_of_all (take (i + 1) xs))
runs_more first old new xs i x y lt is same so_far more =
    let next : take (i + 1) xs ≡ take i xs ++ x ∷ [] = take_more xs i x lt ∙ ap (λ (z : List ℕ). take i xs ++ z ∷ [])
    (sym is) in
    more ∙ ap₂ (λ (a : List (List ℕ)) (b : List ℕ). with_runs a (runs_of b)) so_far same
    ∙ sym (runs_join first (runs_of_all (take i xs)) (runs_of x))
    ∙ ap (with_runs first) (sym (runs_push (take i xs) x) ∙ ap runs_of_all (sym next))

-- the runs of the first part, of those between and of the last one, one after another
pub runs_whole : (p : PartsModel) (none one two three : List (List ℕ)) (a c : List ℕ) (b : List (List ℕ)) →
    a ≡ part_or_nothing p.initial → b ≡ p.any → c ≡ part_or_nothing p.last → none ≡ []
    → one ≡ with_runs none (runs_of a) → two ≡ with_runs one (runs_of_all b) → three ≡ with_runs two (runs_of c) →
    three ≡ asked_runs p
runs_whole p none one two three a c b ea eb ec e0 e1 e2 e3 =
    let first = runs_of (part_or_nothing p.initial) in
    let last = part_or_nothing p.last in
    let is1 : one ≡ with_runs [] first = e1 ∙ ap₂ (λ (x : List (List ℕ)) (y : List ℕ). with_runs x (runs_of y)) e0 ea in
    let is2 : two ≡ with_runs (with_runs [] first) (runs_of_all p.any) = e2
    ∙ ap₂ (λ (x y : List (List ℕ)). with_runs x (runs_of_all y)) is1 eb in
    e3 ∙ ap₂ (λ (x : List (List ℕ)) (y : List ℕ). with_runs x (runs_of y)) is2 ec
    ∙ sym (runs_join (with_runs [] first) (runs_of_all p.any) (runs_of last))
    ∙ ap (with_runs (with_runs [] first)) (sym (runs_push p.any last))
    ∙ sym (runs_join [] first (runs_of_all (p.any ++ last ∷ [])))

abbrev are_three : List (List ℕ) → Bool
are_three gs = list_all (λ g. nat_eq (length g) 3) gs

three_join : (gs hs : List (List ℕ)) → are_three gs ≡ true → are_three hs ≡ true → are_three (gs ++ hs) ≡ true
three_join [] hs h k = k
three_join (g ∷ gs) hs h k = let u = and_parts _ _ h in and_from _ _ u.0 (three_join gs hs u.1 k)

runs_are_three : (x : List ℕ) → are_three (runs_of x) ≡ true
runs_are_three [] = refl
runs_are_three (a ∷ []) = refl
runs_are_three (a ∷ b ∷ []) = refl
runs_are_three (a ∷ b ∷ c ∷ x) = and_from _ _ refl (runs_are_three (b ∷ c ∷ x))

all_are_three : (xs : List (List ℕ)) → are_three (runs_of_all xs) ≡ true
all_are_three [] = refl
all_are_three (x ∷ xs) = three_join (runs_of x) (runs_of_all xs) (runs_are_three x) (all_are_three xs)

asked_are_three : (p : PartsModel) → are_three (asked_runs p) ≡ true
asked_are_three p = asked_all (λ g. nat_eq (length g) 3) p (all_are_three (parts_of p))

each_run : (ix : List Kinds) (t : ℕ) (e : List KeyedAttribute) (gs : List (List ℕ)) → (kinds_of ix t).substrings ≡
    true → are_three gs ≡ true
    → list_all (λ b. b) (map (holds ix e) (run_plans t gs)) ≡ list_all (λ g. some_key t (stands_in g) e) gs
each_run ix t e [] kept three = refl
each_run ix t e (g ∷ gs) kept three =
    let u = and_parts _ _ three in
    ap₂ (λ (a b : Bool). a && b) (in_plan-Posting _ _ _ (posting.Run t g) ∙ and_kept ((kinds_of ix t).substrings
    && nat_eq (length g) 3) _ (and_from _ _ kept u.0)) (each_run ix t e gs kept u.1)

-- the plan of an assertion's runs holds of the entries that have them
pub run_plan : (ix : List Kinds) (t : ℕ) (p : PartsModel) (v : Vec Plan Global) → (kinds_of ix t).substrings ≡ true →
    v.items ≡ run_plans t (asked_runs p) → (e : List KeyedAttribute)
    → holds ix e (plan.Inter v) ≡ has_runs t p e
run_plan ix t p v kept is e =
    in_plan-Inter _ _ _ v ∙ ap (λ (xs : List Plan). list_all (λ b. b) (map (holds ix e) xs)) is
    ∙ each_run ix t e (asked_runs p) kept (asked_are_three p)

pub run_bounds : (ix : List Kinds) (leaf : Leaf) (p : PartsModel) (y : Plan) → leaf.test ≡ test.Parts p →
    ((e : List KeyedAttribute) → holds ix e y ≡ has_runs leaf.type_id p e)
    → Bounds ix (λ e. leaf_value e leaf) True false plan.Empty y
run_bounds ix leaf p y is held e = record {
  sound = λ h. let k : true ≡ false = sym h ∙ in_plan-Empty _ _ _ in cc;
  complete = λ h. held e ∙ parts_entry leaf.type_id p e (of_true _ (sym (leaf_as leaf (test.Parts p) is (λ h. cc) e)
      ∙ h));
  exact = λ d h. let k : false ≡ true = d in cc;
}

test_runs : (ix : List Kinds) (leaf : Leaf) (e : List KeyedAttribute) (x : Test) → leaf.test ≡ x → leaf_value e leaf ≡
    True → has_runs_of_test ix leaf.type_id x e ≡ true
test_runs ix leaf e test.Present is h = refl
test_runs ix leaf e test.Unknown is h = absurd (unknown_not_true _ (sym (leaf_unknown leaf is e) ∙ h))
test_runs ix leaf e (test.Equal k) is h = refl
test_runs ix leaf e (test.AtLeast k) is h = refl
test_runs ix leaf e (test.AtMost k) is h = refl
test_runs ix leaf e (test.Parts p) is h =
    or_late _ _ (parts_entry leaf.type_id p e (of_true _ (sym (leaf_as leaf (test.Parts p) is (λ h. cc) e) ∙ h)))

-- an entry on which a leaf is True has the runs that its test asks for
pub true_has_runs : (ix : List Kinds) (leaf : Leaf) (e : List KeyedAttribute) → leaf_value e leaf ≡ True →
    has_runs_of_test ix leaf.type_id leaf.test e ≡ true
true_has_runs ix leaf e h = test_runs ix leaf e leaf.test refl h

-- nothing is sure and nothing may be, where nobody can tell
pub unknown_true : (ix : List Kinds) (leaf : Leaf) → leaf.test ≡ test.Unknown → Bounds ix (λ e. leaf_value e leaf)
    True false plan.Empty plan.Empty
unknown_true ix leaf is e = record {
  sound = λ h. let k : true ≡ false = sym h ∙ in_plan-Empty _ _ _ in cc;
  complete = λ h. absurd (unknown_not_true _ (sym (leaf_unknown leaf is e) ∙ h));
  exact = λ d h. h;
}

pub unknown_side : (ix : List Kinds) (leaf : Leaf) (wanted : Bool) (m y : Plan) → wanted ≡ false →
    leaf.test ≡ test.Unknown
    → Bounds ix (λ e. leaf_value e (record { type_id = leaf.type_id; test = test.Unknown })) False
    (kinds_of ix leaf.type_id).presence m y
    → Bounds ix (λ e. leaf_value e leaf) (truth_of wanted) (is_test_decided ix leaf.type_id leaf.test) m y
unknown_side ix leaf wanted m y w is b =
    let at : Bounds ix (λ e. leaf_value e leaf) False (is_test_decided ix leaf.type_id leaf.test) m y =
    subst (λ (x : Test). Bounds ix (λ e. leaf_value e (record { type_id = leaf.type_id; test = x })) False
    (is_test_decided ix leaf.type_id x) m y) (sym is) b in
    rw w at

pub other_side : (ix : List Kinds) (leaf : Leaf) (wanted : Bool) (m y m' y' : Plan) → wanted ≡ false →
    (leaf.test ≡ test.Unknown → ⊥)
    → ((e : List KeyedAttribute) → holds ix e m' ≡ not (holds ix e y)) → ((e : List KeyedAttribute) → holds ix e y' ≡
    not (holds ix e m))
    → Bounds ix (λ e. leaf_value e leaf) True (is_test_decided ix leaf.type_id leaf.test) m y
    → Bounds ix (λ e. leaf_value e leaf) (truth_of wanted) (is_test_decided ix leaf.type_id leaf.test) m' y'
other_side ix leaf wanted m y m' y' w n om oy b =
    rw w (bounds_flip ix (λ e. leaf_value e leaf) (test_holds leaf.type_id leaf.test) m y m' y'
    (is_test_decided ix leaf.type_id leaf.test) (leaf_two_valued leaf n) om oy b)

pub if_ok_both : {A E : Type 0} (P Q R : A → Type 0) → ((x : A) → P x → Q x → R x) → (r : Result A E) → IfOk r P →
    IfOk r Q → IfOk r R
if_ok_both P Q R f (Ok x) h k = f x h k
if_ok_both P Q R f (Err e) h k = tt
