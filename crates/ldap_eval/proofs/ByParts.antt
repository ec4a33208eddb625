-- Tests on the values of an attribute, part by part.
use Rattle.std.proofs.Common.{ℕ, List, [], ◌∷◌, ◌++◌, Bool, true, false, ◌||◌, ◌≡◌, refl, ap, ap₂, sym, ◌∙◌}
use Rattle.std.specs.List.{list_any}
use Rattle.std.specs.Str.{bytes_eq}
use Rattle.std.proofs.lemmas.List.{append-nil}
use Rattle.std.proofs.lemmas.List.Folds.{list_any-append}
use Rattle.std.proofs.lemmas.Slice.Eq.{bytes_eq-Decides}
use Rattle.dir_entry.specs.ldap_syntax.Forms.{is_met, is_text_met}
use Rattle.dir_entry.specs.ldap_match.Truth.{truth_of, truth_or}
use Rattle.dir_entry.specs.ldap_match.Keyed.{test_value, is_same_key, is_key_at_least, is_key_at_most}
use Rattle.dir_entry.specs.ldap_match.Parts.{has_parts}
use Rattle.dir_entry.specs.ldap_match.declared.truth.Truth.{Truth}
use Rattle.dir_entry.specs.ldap_match.declared.truth.Truth.TheVariants.{True}
use Rattle.dir_entry.specs.ldap_match.declared.testing.Test.{Test}
use Rattle.dir_entry.specs.ldap_match.declared.testing.Test.TheVariants as test
use Rattle.ldap_eval.specs.Matched.{match_value}
use Rattle.ldap_eval.specs.declared.matching.MatchTest.{MatchTest}
use Rattle.ldap_eval.specs.declared.matching.MatchTest.TheVariants as match_test
use Rattle.ldap_eval.proofs.Truths.{or_assoc}

-- ---- one part more

truth_either : (a b : Bool) → truth_of (a || b) ≡ truth_or (truth_of a) (truth_of b)
truth_either true b = refl
truth_either false b = refl

-- whether one is among two lists
any_either : {A : Type 0} (p : A → Bool) (xs ys : List A) → truth_of (list_any p (xs ++ ys)) ≡
    truth_or (truth_of (list_any p xs)) (truth_of (list_any p ys))
any_either p xs ys = ap truth_of (list_any-append p xs ys) ∙ truth_either (list_any p xs) (list_any p ys)

-- a test on keys and more keys
pub test_either : (t : Test) (xs ys : List (List ℕ)) → test_value t (xs ++ ys) ≡ truth_or (test_value t xs)
    (test_value t ys)
test_either test.Present xs ys = refl
test_either test.Unknown xs ys = refl
test_either (test.Equal k) xs ys = any_either (is_same_key k) xs ys
test_either (test.AtLeast k) xs ys = any_either (is_key_at_least k) xs ys
test_either (test.AtMost k) xs ys = any_either (is_key_at_most k) xs ys
test_either (test.Parts p) xs ys = any_either (has_parts p) xs ys

-- a test on values and more values
pub match_either : (t : MatchTest) (vs ws ks ls : List (List ℕ)) → match_value t (vs ++ ws) (ks ++ ls) ≡
    truth_or (match_value t vs ks) (match_value t ws ls)
match_either match_test.Unknown vs ws ks ls = refl
match_either (match_test.Kept a) vs ws ks ls = any_either (is_met a.less a.key) ks ls
match_either (match_test.Text r a) vs ws ks ls = any_either (is_text_met r a.less a.key) vs ws

-- ---- the loop

-- The `or` so far with that of what is left is the whole, and with that of nothing it is itself.
pub record IsOrSoFar (so_far left nothing whole : Truth) : Type 0 where
  pub total : truth_or so_far left ≡ whole
  pub settled : truth_or so_far nothing ≡ so_far

-- the first part
pub tested_first : (t : Test) (all first rest : List (List ℕ)) (here : Truth) → all ≡ first ++ rest →
    here ≡ test_value t first
    → IsOrSoFar here (test_value t rest) (test_value t []) (test_value t all)
tested_first t all first rest here e h = record {
  total = ap (λ (x : Truth). truth_or x (test_value t rest)) h ∙ sym (test_either t first rest)
      ∙ ap (test_value t) (sym e);
  settled =
      ap (λ (x : Truth). truth_or x (test_value t [])) h ∙ sym (test_either t first [])
      ∙ ap (test_value t) (append-nil first)
      ∙ sym h;
}

-- one part more
or_more : (so_far here left new rest nothing whole : Truth) → left ≡ truth_or here rest →
    truth_or here nothing ≡ here → new ≡ truth_or so_far here → truth_or so_far left ≡ whole →
    IsOrSoFar new rest nothing whole
or_more so_far here left new rest nothing whole split settled e total = record {
  total = ap (λ (x : Truth). truth_or x rest) e ∙ or_assoc so_far here rest ∙ ap (truth_or so_far) (sym split)
      ∙ total;
  settled = ap (λ (x : Truth). truth_or x nothing) e ∙ or_assoc so_far here nothing ∙ ap (truth_or so_far) settled
      ∙ sym e;
}

pub tested_more : (t : Test) (left here rest : List (List ℕ)) (so_far tested new whole : Truth) → left ≡ here ++ rest
    → tested ≡ test_value t here → new ≡ truth_or so_far tested
    → IsOrSoFar so_far (test_value t left) (test_value t []) whole
    → IsOrSoFar new (test_value t rest) (test_value t []) whole
tested_more t left here rest so_far tested new whole e h is i =
    or_more so_far (test_value t here) (test_value t left) new (test_value t rest) (test_value t []) whole
    (ap (test_value t) e ∙ test_either t here rest)
    (sym (test_either t here []) ∙ ap (test_value t) (append-nil here)) (is ∙ ap (truth_or so_far) h) i.total

pub matched_first : (t : MatchTest) (values first rest keys first_keys rest_keys : List (List ℕ)) (here : Truth) →
    values ≡ first ++ rest → keys ≡ first_keys ++ rest_keys → here ≡ match_value t first first_keys
    → IsOrSoFar here (match_value t rest rest_keys) (match_value t [] []) (match_value t values keys)
matched_first t values first rest keys first_keys rest_keys here e k h = record {
  total =
      ap (λ (x : Truth). truth_or x (match_value t rest rest_keys)) h
      ∙ sym (match_either t first rest first_keys rest_keys)
      ∙ ap₂ (match_value t) (sym e) (sym k);
  settled =
      ap (λ (x : Truth). truth_or x (match_value t [] [])) h
      ∙ sym (match_either t first [] first_keys [])
      ∙ ap₂ (match_value t) (append-nil first) (append-nil first_keys)
      ∙ sym h;
}

pub matched_more : (t : MatchTest) (left here rest left_keys here_keys rest_keys : List (List ℕ)) (so_far matched new
    whole : Truth) → left ≡ here ++ rest → left_keys ≡ here_keys ++ rest_keys
    → matched ≡ match_value t here here_keys → new ≡ truth_or so_far matched
    → IsOrSoFar so_far (match_value t left left_keys) (match_value t [] []) whole
    → IsOrSoFar new (match_value t rest rest_keys) (match_value t [] []) whole
matched_more t left here rest left_keys here_keys rest_keys so_far matched new whole e k h is i =
    or_more so_far (match_value t here here_keys) (match_value t left left_keys) new (match_value t rest rest_keys)
    (match_value t [] []) whole
    (ap₂ (match_value t) e k ∙ match_either t here rest here_keys rest_keys)
    (sym (match_either t here [] here_keys []) ∙ ap₂ (match_value t) (append-nil here) (append-nil here_keys))
    (is ∙ ap (truth_or so_far) h) i.total

-- nothing is left
pub or_all : (so_far left nothing whole : Truth) → left ≡ nothing → IsOrSoFar so_far left nothing whole → so_far ≡ whole
or_all so_far left nothing whole e i = sym i.settled ∙ ap (truth_or so_far) (sym e) ∙ i.total

-- it is settled before the end
pub or_true : (so_far left nothing whole : Truth) → so_far ≡ True → IsOrSoFar so_far left nothing whole →
    so_far ≡ whole
or_true so_far left nothing whole e i = e ∙ ap (λ (x : Truth). truth_or x left) (sym e) ∙ i.total

-- ---- an equality

same_both_ways : (a b : Bool) → (a ≡ true → b ≡ true) → (b ≡ true → a ≡ true) → a ≡ b
same_both_ways true b f g = sym (f refl)
same_both_ways false true f g = g refl
same_both_ways false false f g = refl

turned : (k l : List ℕ) → bytes_eq k l ≡ bytes_eq l k
turned k l = same_both_ways (bytes_eq k l) (bytes_eq l k) (λ h. (bytes_eq-Decides l k).1
    (sym ((bytes_eq-Decides k l).0 h))) (λ h. (bytes_eq-Decides k l).1 (sym ((bytes_eq-Decides l k).0 h)))

-- a key is among others, whichever of two is asked
pub any_turned : (k : List ℕ) (ls : List (List ℕ)) → list_any (bytes_eq k) ls ≡ list_any (is_same_key k) ls
any_turned k [] = refl
any_turned k (l ∷ ls) = ap₂ (λ (a b : Bool). a || b) (turned k l) (any_turned k ls)
