-- Ranks that fall along the chain of superclasses, and the chain where what has a lesser rank is cut off.
use Rattle.std.proofs.Common.{ℕ, ◌+◌, ◌<◌, ◌≤◌, List, [], ◌∷◌, Bool, true, false, ◌&&◌, ◌||◌, Option, None, Some, ◌≡◌, ◌-◌, ◌⊎◌, refl, ap, sym, subst, ◌∙◌, length, nat_eq, nat_le, nat_lt, filter, option_map, inl, inr, arith}
use Rattle.std.specs.List.{list_all, slice_get}
use Rattle.std.proofs.lemmas.Bool.{cases_lt}
use Rattle.std.proofs.lemmas.Bool.Decides.{nat_tests}
use Rattle.std.proofs.lemmas.Option.{slice_get-map}
use Rattle.std.proofs.lemmas.List.{length-map}
use Rattle.std.proofs.lemmas.List.Folds.{list_all-map}
use Rattle.std.proofs.lemmas.Map.Views.{any-filter_same}
use Rattle.ldap_schema.specs.Schema.{ClassModel, SchemaModel}
use Rattle.ldap_schema.specs.Superclasses.{is_among, superclasses_in, direct_superclasses, filled, filled_from, with_missing, IsSubclass, is_itself, goes_up, has_known_superclasses, AreSuperclassesKnown}
use Rattle.ldap_schema.specs.Lines.{rank_in}
use Rattle.ldap_schema.specs.private.Lines.{is_under_in, IsRanking, IsRankingBelow, cut_class, cut}
use Rattle.ldap_schema.proofs.Lineage.{chain_from_list, list_from_chain, within_of}
use Rattle.ldap_schema.proofs.Filling.{fill_step}
use Rattle.ldap_schema.proofs.Ordered.{IsRankedOrder, and_one, and_two, both, bool_ext, one_of, same_number}

-- a schema of these classes, of which alone the chain speaks
abbrev pub of : List ClassModel → SchemaModel
of classes = record { types = []; classes = classes }

up_through : (s : SchemaModel) (a b c : ℕ) → IsSubclass s a b → IsSubclass s b c → IsSubclass s a c
up_through s a b c is_itself k = k
up_through s a b c (goes_up u e rest) k = goes_up u e (up_through s u b c rest k)

below_step : (ranks : List ℕ) (a u b : ℕ) → rank_in ranks u < rank_in ranks a → (u ≡ b)
    ⊎ (rank_in ranks b < rank_in ranks u) → rank_in ranks b < rank_in ranks a
below_step ranks a u b lt (inl same) = subst (λ (x : ℕ). rank_in ranks x < rank_in ranks a) same lt
below_step ranks a u b lt (inr up) = omega (arith, lt, up)

ranked_up : (classes : List ClassModel) (ranks : List ℕ) → IsRanking classes ranks → (a b : ℕ) →
    IsSubclass (of classes) a b → (a ≡ b) ⊎ (rank_in ranks b < rank_in ranks a)
ranked_up classes ranks r a b is_itself = inl refl
ranked_up classes ranks r a b (goes_up u e rest) =
    inr (below_step ranks a u b (r a u e) (ranked_up classes ranks r u b rest))

pub ranked_order : (classes : List ClassModel) (ranks : List ℕ) → AreSuperclassesKnown classes →
    IsRanking classes ranks → IsRankedOrder (is_under_in classes) ranks
ranked_order classes ranks known r = record {
  itself = λ a. list_from_chain (of classes) a a known is_itself;
  through = λ a b c h k. list_from_chain (of classes) a c known (up_through (of classes) a b c
      (chain_from_list (of classes) a b h) (chain_from_list (of classes) b c k));
  ranked = λ a b h. ranked_up classes ranks r a b (chain_from_list (of classes) a b h);
}

pub direct_under : (classes : List ClassModel) (a b : ℕ) → AreSuperclassesKnown classes →
    is_among (direct_superclasses classes a) b ≡ true → is_under_in classes a b ≡ true
direct_under classes a b known h = list_from_chain (of classes) a b known (goes_up b h is_itself)

-- the direct superclasses that stay

among_kept : (p : ℕ → Bool) (cs : List ℕ) (u : ℕ) → is_among (filter p cs) u ≡ (p u && is_among cs u)
among_kept p cs u = any-filter_same (nat_eq u) p (p u) (λ k e. ap p (sym (same_number u k e))) cs

cut_in : (ranks : List ℕ) (low : ℕ) (o : Option ClassModel) → superclasses_in (option_map (cut_class ranks low) o) ≡
    filter (λ u. nat_le low (rank_in ranks u)) (superclasses_in o)
cut_in ranks low None = refl
cut_in ranks low (Some c) = refl

pub direct_cut : (ranks : List ℕ) (low : ℕ) (classes : List ClassModel) (c : ℕ) →
    direct_superclasses (cut ranks low classes) c ≡ filter (λ u. nat_le low (rank_in ranks u))
    (direct_superclasses classes c)
direct_cut ranks low classes c = ap superclasses_in (slice_get-map (cut_class ranks low) classes c)
    ∙ cut_in ranks low (slice_get classes c)

among_cut : (ranks : List ℕ) (low : ℕ) (classes : List ClassModel) (c u : ℕ) →
    is_among (direct_superclasses (cut ranks low classes) c) u ≡ (nat_le low (rank_in ranks u)
    && is_among (direct_superclasses classes c) u)
among_cut ranks low classes c u = ap (λ (cs : List ℕ). is_among cs u) (direct_cut ranks low classes c)
    ∙ among_kept (λ x. nat_le low (rank_in ranks x)) (direct_superclasses classes c) u

-- what stays is known

all_kept_by : (q p : ℕ → Bool) (x : ℕ) (xs : List ℕ) (b : Bool) → p x ≡ b → list_all q (x ∷ xs) ≡ true →
    list_all q (filter p xs) ≡ true → list_all q (filter p (x ∷ xs)) ≡ true
all_kept_by q p x xs true e h further = rw e (both (q x) (list_all q (filter p xs)) (and_one (q x) (list_all q xs) h)
    further)
all_kept_by q p x xs false e h further = rw e further

all_kept : (q p : ℕ → Bool) (xs : List ℕ) → list_all q xs ≡ true → list_all q (filter p xs) ≡ true
all_kept q p [] h = refl
all_kept q p (x ∷ xs) h = all_kept_by q p x xs (p x) refl h (all_kept q p xs (and_two (q x) (list_all q xs) h))

known_of : (ranks : List ℕ) (low n : ℕ) (classes : List ClassModel) → list_all (has_known_superclasses n) classes ≡
    true → list_all (λ c. has_known_superclasses n (cut_class ranks low c)) classes ≡ true
known_of ranks low n [] h = refl
known_of ranks low n (c ∷ classes) h =
    both (has_known_superclasses n (cut_class ranks low c))
    (list_all (λ x. has_known_superclasses n (cut_class ranks low x)) classes)
    (all_kept (λ d. nat_lt d n) (λ u. nat_le low (rank_in ranks u)) c.superiors (and_one (has_known_superclasses n c)
    (list_all (has_known_superclasses n) classes) h))
    (known_of ranks low n classes (and_two (has_known_superclasses n c) (list_all (has_known_superclasses n) classes)
    h))

known_cut : (ranks : List ℕ) (low : ℕ) (classes : List ClassModel) → AreSuperclassesKnown classes →
    AreSuperclassesKnown (cut ranks low classes)
known_cut ranks low classes known =
    ap (λ (n : ℕ). list_all (has_known_superclasses n) (cut ranks low classes))
    (length-map classes (cut_class ranks low))
    ∙ list_all-map (has_known_superclasses (length classes)) (cut_class ranks low) classes
    ∙ known_of ranks low (length classes) classes known

-- the chain with what is cut off, and without

chain_back : (ranks : List ℕ) (low : ℕ) (classes : List ClassModel) (a b : ℕ) →
    IsSubclass (of (cut ranks low classes)) a b → IsSubclass (of classes) a b
chain_back ranks low classes a b is_itself = is_itself
chain_back ranks low classes a b (goes_up u e rest) =
    goes_up u (and_two (nat_le low (rank_in ranks u)) (is_among (direct_superclasses classes a) u)
    (sym (among_cut ranks low classes a u) ∙ e)) (chain_back ranks low classes u b rest)

stays_high : (ranks : List ℕ) (u b : ℕ) → (u ≡ b) ⊎ (rank_in ranks b < rank_in ranks u) →
    nat_le (rank_in ranks b) (rank_in ranks u) ≡ true
stays_high ranks u b (inl e) = subst (λ (x : ℕ). nat_le (rank_in ranks x) (rank_in ranks u) ≡ true) e
    (grind (arith, nat_tests))
stays_high ranks u b (inr lt) = grind (arith, nat_tests, lt)

chain_on : (ranks : List ℕ) (classes : List ClassModel) → IsRanking classes ranks → (a b : ℕ) →
    IsSubclass (of classes) a b → IsSubclass (of (cut ranks (rank_in ranks b) classes)) a b
chain_on ranks classes r a b is_itself = is_itself
chain_on ranks classes r a b (goes_up u e rest) =
    goes_up u
    (among_cut ranks (rank_in ranks b) classes a u
    ∙ both (nat_le (rank_in ranks b) (rank_in ranks u)) (is_among (direct_superclasses classes a) u)
    (stays_high ranks u b (ranked_up classes ranks r u b rest)) e)
    (chain_on ranks classes r u b rest)

pub cut_tells : (classes : List ClassModel) (ranks : List ℕ) (a b : ℕ) → AreSuperclassesKnown classes →
    IsRanking classes ranks → is_under_in (cut ranks (rank_in ranks b) classes) a b ≡ is_under_in classes a b
cut_tells classes ranks a b known r =
    bool_ext (is_under_in (cut ranks (rank_in ranks b) classes) a b) (is_under_in classes a b)
    (λ h. list_from_chain (of classes) a b known (chain_back ranks (rank_in ranks b) classes a b
    (chain_from_list (of (cut ranks (rank_in ranks b) classes)) a b h)))
    (λ h. list_from_chain (of (cut ranks (rank_in ranks b) classes)) a b (known_cut ranks (rank_in ranks b) classes
    known) (chain_on ranks classes r a b (chain_from_list (of classes) a b h)))

-- what a search up from a class finds

pub under_cut : (classes : List ClassModel) (ranks : List ℕ) (low a b : ℕ) (found : List ℕ) →
    AreSuperclassesKnown classes → IsRanking classes ranks → low ≡ rank_in ranks b
    → found ≡ filled (cut ranks low classes) (a ∷ []) → (nat_eq a b || is_among found b) ≡ is_under_in classes a b
under_cut classes ranks low a b found known r lows is =
    ap (λ (x : List ℕ). nat_eq a b || is_among x b) is ∙ ap (λ (l : ℕ). is_under_in (cut ranks l classes) a b) lows
    ∙ cut_tells classes ranks a b known r

pub cut_goes_on : (n : ℕ) (classes : List ClassModel) (ranks : List ℕ) (low i c : ℕ) (have new up direct all :
    List ℕ) → i < n → slice_get have i ≡ Some c → direct ≡ direct_superclasses classes c
    → up ≡ filter (λ u. nat_le low (rank_in ranks u)) direct → new ≡ with_missing have up →
    filled_from (n - i) (cut ranks low classes) i have ≡ all
    → filled_from (n - (i + 1)) (cut ranks low classes) (i + 1) new ≡ all
cut_goes_on n classes ranks low i c have new up direct all lt is directs ups news so_far =
    fill_step n (cut ranks low classes) i c have new up all lt is
    (ups ∙ ap (filter (λ u. nat_le low (rank_in ranks u))) directs ∙ sym (direct_cut ranks low classes c)) news
    so_far

-- the test of ranks, a class at a time

ranked_one : (classes : List ClassModel) (ranks : List ℕ) (n c u : ℕ) →
    list_all (λ x. nat_lt (rank_in ranks x) (rank_in ranks n)) (direct_superclasses classes n) ≡ true →
    IsRankingBelow classes ranks n
    → is_among (direct_superclasses classes c) u ≡ true → (c < n) ⊎ (n ≤ c) → c < n + 1 → rank_in ranks u < rank_in
    ranks c
ranked_one classes ranks n c u above so_far m (inl lt) within = so_far c u lt m
ranked_one classes ranks n c u above so_far m (inr le) within =
    let same : c ≡ n = omega (arith, le, within) in
    let lt : nat_lt (rank_in ranks u) (rank_in ranks n) ≡ true =
    one_of (λ x. nat_lt (rank_in ranks x) (rank_in ranks n)) (direct_superclasses classes n) u above
    (subst (λ (x : ℕ). is_among (direct_superclasses classes x) u ≡ true) same m) in
    subst (λ (x : ℕ). rank_in ranks u < rank_in ranks x) (sym same) (grind (arith, nat_tests, lt))

pub ranking_more : (classes : List ClassModel) (ranks : List ℕ) (n c : ℕ) (direct : List ℕ) → c ≡ n →
    direct ≡ direct_superclasses classes c
    → list_all (λ x. nat_lt (rank_in ranks x) (rank_in ranks c)) direct ≡ true → IsRankingBelow classes ranks n →
    IsRankingBelow classes ranks (n + 1)
ranking_more classes ranks n c direct same directs above so_far =
    λ x u within m.
    ranked_one classes ranks n x u
    (subst (λ (k : ℕ). list_all (λ y. nat_lt (rank_in ranks y) (rank_in ranks k)) (direct_superclasses classes k) ≡
    true) same
    (sym (ap (list_all (λ y. nat_lt (rank_in ranks y) (rank_in ranks c))) directs) ∙ above))
    so_far m (cases_lt x n) within

pub ranking_whole : (classes : List ClassModel) (ranks : List ℕ) (n : ℕ) → length classes ≤ n →
    IsRankingBelow classes ranks n → IsRanking classes ranks
ranking_whole classes ranks n le so_far = λ c u m. let lt : c < length classes = within_of classes c u m in so_far c u
    (omega (arith, le, lt)) m
