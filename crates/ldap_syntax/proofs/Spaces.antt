-- The spaces round the words of a text, as they are written.
use Rattle.std.proofs.Common.{ℕ, zero, suc, ◌-◌, ◌≤◌, List, [], ◌∷◌, ◌++◌, Bool, true, false, not, cond, ◌||◌, nat_eq, ◌≡◌, refl, ap, ap₂, sym, ◌∙◌, encode_utf8_all, length, get_or, arith}
use Rattle.std.proofs.lemmas.Str.{encodes-append, encode_ascii}
use Rattle.std.specs.List.{list_any}
use Rattle.ldap_syntax.specs.Text.{words, joined, begins_word, with_character, space_if, is_led, is_closed, blank, spaced, spaced_words, ends_with_space}
use Rattle.ldap_syntax.specs.declared.preparing.Part.{Part}

abbrev pub is_spoken : List ℕ → Bool
is_spoken cs = list_any (λ c. not (nat_eq c 32)) cs

no_words_step : (e : Bool) (c : ℕ) (cs : List ℕ) → nat_eq c 32 ≡ e → (not e || is_spoken cs) ≡ false →
    (is_spoken cs ≡ false → words cs ≡ []) → words (c ∷ cs) ≡ []
no_words_step true c cs is h rest = rw is (rest h)
no_words_step false c cs is h rest = absurd (cc)

pub no_words : (cs : List ℕ) → is_spoken cs ≡ false → words cs ≡ []
no_words [] h = refl
no_words (c ∷ cs) h = no_words_step (nat_eq c 32) c cs refl h (no_words cs)

some_character : (c : ℕ) (b : Bool) (ws : List (List ℕ)) → with_character c b ws ≡ [] → ⊥
some_character c true [] h = cc
some_character c true (w ∷ ws) h = cc
some_character c false ws h = cc

some_words_step : (e : Bool) (c : ℕ) (cs : List ℕ) → nat_eq c 32 ≡ e → (not e || is_spoken cs) ≡ true →
    (is_spoken cs ≡ true → words cs ≡ [] → ⊥) → cond e (words cs) (with_character c (begins_word cs) (words cs)) ≡
    [] → ⊥
some_words_step true c cs is h rest w = rest h w
some_words_step false c cs is h rest w = some_character c (begins_word cs) (words cs) w

pub some_words : (cs : List ℕ) → is_spoken cs ≡ true → words cs ≡ [] → ⊥
some_words [] h w = cc
some_words (c ∷ cs) h w = some_words_step (nat_eq c 32) c cs refl h (some_words cs) w

words_are_spaced : (part : Part) (cs : List ℕ) (ws : List (List ℕ)) → (ws ≡ [] → ⊥) → spaced_words part cs ws ≡
    (space_if (is_led part cs) ++ joined ws) ++ space_if (is_closed part cs)
words_are_spaced part cs [] h = absurd (h refl)
words_are_spaced part cs (w ∷ ws) h = refl

pub spaced_blank : (part : Part) (cs : List ℕ) → is_spoken cs ≡ false → spaced part cs ≡ blank part
spaced_blank part cs h = ap (spaced_words part cs) (no_words cs h)

-- a SPACE is one octet
space_bytes : (b : Bool) → encode_utf8_all (space_if b) ≡ space_if b
space_bytes true = rw (encode_ascii 32 (omega arith)) refl
space_bytes false = refl

-- what is written for a text with a word, step by step
pub written : (part : Part) (cs b₁ b₂ b₃ : List ℕ) (led closed : Bool) → is_spoken cs ≡ true → led ≡ is_led part cs →
    closed ≡ is_closed part cs → b₁ ≡ [] ++ space_if led → b₂ ≡ b₁ ++ encode_utf8_all (joined (words cs)) →
    b₃ ≡ b₂ ++ space_if closed → b₃ ≡ encode_utf8_all (spaced part cs)
written part cs b₁ b₂ b₃ led closed h l k e₁ e₂ e₃ =
    let shape : spaced part cs ≡ (space_if (is_led part cs) ++ joined (words cs)) ++ space_if (is_closed part cs) =
    words_are_spaced part cs (words cs) (some_words cs h) in
    let bytes : encode_utf8_all ((space_if led ++ joined (words cs)) ++ space_if closed) ≡
    (space_if led ++ encode_utf8_all (joined (words cs))) ++ space_if closed =
    encodes-append (space_if led ++ joined (words cs)) (space_if closed)
    ∙ ap₂ ◌++◌ (encodes-append (space_if led) (joined (words cs))
    ∙ ap (λ (x : List ℕ). x ++ encode_utf8_all (joined (words cs))) (space_bytes led)) (space_bytes closed) in
    rw (e₃, e₂, e₁) (sym bytes ∙ ap encode_utf8_all (rw (l, k) (sym shape)))

-- the last character
pub last_space : (cs : List ℕ) (d j : ℕ) → 1 ≤ length cs → j ≡ length cs - 1 → nat_eq (get_or cs j d) 32 ≡
    ends_with_space cs
last_space [] d j h e = absurd (omega arith)
last_space (c ∷ []) d zero h e = refl
last_space (c ∷ []) d (suc j) h e = absurd (omega arith)
last_space (c ∷ b ∷ cs) d zero h e = absurd (omega arith)
last_space (c ∷ b ∷ cs) d (suc j) h e = last_space (b ∷ cs) d j (omega arith) (omega arith)
