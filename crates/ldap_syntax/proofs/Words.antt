-- The loop over a text against its words.
use Rattle.std.proofs.Common.{ℕ, List, [], ◌∷◌, Bool, true, false, cond, ◌&&◌, nat_eq, ◌≡◌, refl, ap, ◌∙◌}
use Rattle.ldap_syntax.specs.Text.{words, joined, begins_word, with_character}

-- what is still written, when a word was begun or not and a gap is open or not
abbrev pub rest_of : Bool → Bool → List ℕ → List ℕ
rest_of b g [] = []
rest_of b g (c ∷ cs) = cond (nat_eq c 32) (rest_of b true cs) (cond (b && g) (32 ∷ 32 ∷ c ∷ rest_of true false cs)
    (c ∷ rest_of true false cs))

-- words behind a gap
abbrev pub apart : List (List ℕ) → List ℕ
apart [] = []
apart (w ∷ ws) = 32 ∷ 32 ∷ joined (w ∷ ws)

pub record Writes (cs : List ℕ) : Type 0 where
  pub at_start : (g : Bool) → rest_of false g cs ≡ joined (words cs)
  pub in_gap : rest_of true true cs ≡ apart (words cs)
  pub in_word : rest_of true false cs ≡ cond (begins_word cs) (joined (words cs)) (apart (words cs))

in_word_step : (c : ℕ) (b : Bool) (ws : List (List ℕ)) → c ∷ cond b (joined ws) (apart ws) ≡
    joined (with_character c b ws)
in_word_step c true [] = refl
in_word_step c true (w ∷ []) = refl
in_word_step c true (w ∷ v ∷ ws) = refl
in_word_step c false [] = refl
in_word_step c false (w ∷ ws) = refl

in_gap_step : (c : ℕ) (b : Bool) (ws : List (List ℕ)) → 32 ∷ 32 ∷ joined (with_character c b ws) ≡
    apart (with_character c b ws)
in_gap_step c true [] = refl
in_gap_step c true (w ∷ ws) = refl
in_gap_step c false ws = refl

writes_step : (e : Bool) (c : ℕ) (cs : List ℕ) → nat_eq c 32 ≡ e → Writes cs → Writes (c ∷ cs)
writes_step true c cs is w = record {
  at_start = λ g. rw is (w.at_start true);
  in_gap = rw is w.in_gap;
  in_word = rw is w.in_gap;
}
writes_step false c cs is w =
    let step : c ∷ rest_of true false cs ≡ joined (with_character c (begins_word cs) (words cs)) =
    ap (λ (x : List ℕ). c ∷ x) w.in_word ∙ in_word_step c (begins_word cs) (words cs) in
    record {
      at_start = λ g. rw is step;
      in_gap = rw is (ap (λ (x : List ℕ). 32 ∷ 32 ∷ x) step ∙ in_gap_step c (begins_word cs) (words cs));
      in_word = rw is step;
    }

pub writes : (cs : List ℕ) → Writes cs
writes [] = record { at_start = λ g. refl; in_gap = refl; in_word = refl }
writes (c ∷ cs) = writes_step (nat_eq c 32) c cs refl (writes cs)
