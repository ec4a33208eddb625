-- Filter texts, scanning: the words behind colons, of which `dn` is one.
use Rattle.std.proofs.Common.{◌≡◌, ℕ, ◌+◌, ◌<◌, List, [], ◌∷◌, Bool, true, false, cond, ◌&&◌, Option, None, Some, nat_eq, nat_lt, refl, sym, ap, ◌∙◌, ◌⊎◌, inl, inr, arith}
use Rattle.std.specs.Option.{option_map, option_and_then}
use Rattle.std.specs.Char.{to_ascii_lowercase}
use Rattle.std.proofs.lemmas.Bool.{eqb-true}
use Rattle.filter_text.specs.Descriptions.{is_oid, is_dn}
use Rattle.filter_text.specs.private.Machine.{run, within}
use Rattle.filter_text.specs.private.ItemScan.{oid_step, word_first, word_step, rule_out, item_step}
use Rattle.filter_text.specs.declared.place.OidPlace.{OidPlace}
use Rattle.filter_text.specs.declared.place.Word.{Word}
use Rattle.filter_text.specs.declared.place.Word.TheVariants.{OnlyD, Dn, Other}
use Rattle.filter_text.specs.declared.place.ItemPlace.{ItemPlace}
use Rattle.filter_text.specs.declared.place.ItemPlace.TheVariants.{Rule}
use Rattle.filter_text.proofs.Booleans.{left, right}
use Rattle.filter_text.proofs.Machines.{false_true, none_some, some_same}

-- ---- which words are `dn`

-- the word behind more octets
abbrev pub words : Word → List ℕ → Word
words w [] = w
words w (c ∷ cs) = words (word_step w c) cs

abbrev pub is_dn_word : Word → Bool
is_dn_word OnlyD = false
is_dn_word Dn = true
is_dn_word Other = false

others : (cs : List ℕ) → words Other cs ≡ Other
others [] = refl
others (c ∷ cs) = others cs

one_letter : (a : Bool) → false ≡ is_dn_word (cond a OnlyD Other)
one_letter true = refl
one_letter false = refl

and_false : (b : Bool) → (b && false) ≡ false
and_false true = refl
and_false false = refl

two_letters : (a b : Bool) (c d : ℕ) → nat_eq (to_ascii_lowercase d) 110 ≡ b → (a && (b && true)) ≡
    is_dn_word (word_step (cond a OnlyD Other) d)
two_letters true true c d e = sym (ap (λ x. is_dn_word (cond x Dn Other)) e)
two_letters true false c d e = sym (ap (λ x. is_dn_word (cond x Dn Other)) e)
two_letters false b c d e = refl

third : (b : Bool) (e : ℕ) (cs : List ℕ) → words (word_step (cond b Dn Other) e) cs ≡ Other
third true e cs = others cs
third false e cs = others cs

more_letters : (a : Bool) (d e : ℕ) (cs : List ℕ) → words (word_step (word_step (cond a OnlyD Other) d) e) cs ≡ Other
more_letters true d e cs = third (nat_eq (to_ascii_lowercase d) 110) e cs
more_letters false d e cs = others cs

three_false : (a b : Bool) → (a && (b && false)) ≡ false
three_false true b = and_false b
three_false false b = refl

pub dn_word : (c : ℕ) (cs : List ℕ) → is_dn (c ∷ cs) ≡ is_dn_word (words (word_first c) cs)
dn_word c [] = and_false (nat_eq (to_ascii_lowercase c) 100) ∙ one_letter (nat_eq (to_ascii_lowercase c) 100)
dn_word c (d ∷ []) = two_letters (nat_eq (to_ascii_lowercase c) 100) (nat_eq (to_ascii_lowercase d) 110) c d refl
dn_word c (d ∷ e ∷ cs) =
    three_false (nat_eq (to_ascii_lowercase c) 100) (nat_eq (to_ascii_lowercase d) 110)
    ∙ ap is_dn_word (sym (more_letters (nat_eq (to_ascii_lowercase c) 100) d e cs))

pub is_dn_here : (w : Word) → is_dn_word w ≡ true → w ≡ Dn
is_dn_here OnlyD e = absurd (false_true e)
is_dn_here Dn e = refl
is_dn_here Other e = absurd (false_true e)

-- ---- `dn` is an oid

lower_at : (a b : Bool) (c n : ℕ) → nat_lt c 65 ≡ a → nat_lt c 91 ≡ b → 96 < n → cond a c (cond b (c + 32) c) ≡ n →
    (c ≡ n) ⊎ (c + 32 ≡ n)
lower_at true b c n e f g h = inl h
lower_at false true c n e f g h = inr h
lower_at false false c n e f g h = inl h

lower : (c n : ℕ) → 96 < n → nat_eq (to_ascii_lowercase c) n ≡ true → (c ≡ n) ⊎ (c + 32 ≡ n)
lower c n g h = lower_at (nat_lt c 65) (nat_lt c 91) c n refl refl g (eqb-true (to_ascii_lowercase c) n h)

oid_dn : (c d : ℕ) → (c ≡ 100) ⊎ (c + 32 ≡ 100) → (d ≡ 110) ⊎ (d + 32 ≡ 110) → is_oid (c ∷ d ∷ []) ≡ true
oid_dn c d (inl e) (inl f) = rw (e, f) refl
oid_dn c d (inl e) (inr f) = let g : d ≡ 78 = omega (arith, f) in rw (e, g) refl
oid_dn c d (inr e) (inl f) = let h : c ≡ 68 = omega (arith, e) in rw (h, f) refl
oid_dn c d (inr e) (inr f) = let h : c ≡ 68 = omega (arith, e) in let g : d ≡ 78 = omega (arith, f) in rw (h, g) refl

pub dn_oid : (w : List ℕ) → is_dn w ≡ true → is_oid w ≡ true
dn_oid [] h = absurd (false_true h)
dn_oid (c ∷ []) h = absurd (false_true (sym (and_false (nat_eq (to_ascii_lowercase c) 100)) ∙ h))
dn_oid (c ∷ d ∷ []) h =
    oid_dn c d (lower c 100 (omega arith) (left (nat_eq (to_ascii_lowercase c) 100) (nat_eq (to_ascii_lowercase d) 110
    && true) h))
    (lower d 110 (omega arith) (left (nat_eq (to_ascii_lowercase d) 110) true
    (right (nat_eq (to_ascii_lowercase c) 100) (nat_eq (to_ascii_lowercase d) 110 && true) h)))
dn_oid (c ∷ d ∷ e ∷ cs) h =
    absurd (false_true (sym (three_false (nat_eq (to_ascii_lowercase c) 100) (nat_eq (to_ascii_lowercase d) 110)) ∙ h))

-- ---- a word and its oid, octet by octet

abbrev pub Worded : Type 0
Worded = Word × OidPlace

abbrev pub word_oid : Worded → ℕ → Option Worded
word_oid s c = option_map (λ p. (word_step s.0 c, p)) (oid_step s.1 c)

abbrev pub put_rule : Worded → ItemPlace
put_rule s = Rule s.0 s.1

abbrev pub out_of_rule : Worded → ℕ → Option ItemPlace
out_of_rule s c = rule_out s.0 s.1 c

within_rule : (w : Word) (out : Option ItemPlace) (o : Option OidPlace) → within (Rule w) out o ≡ within put_rule out
    (option_map (λ p. (w, p)) o)
within_rule w out None = refl
within_rule w out (Some p) = refl

pub rule_inside : (s : Worded) (c : ℕ) → item_step (put_rule s) c ≡ within put_rule (out_of_rule s c) (word_oid s c)
rule_inside s c = within_rule (word_step s.0 c) (rule_out s.0 s.1 c) (oid_step s.1 c)

worded_at : (r : Option OidPlace) (w : Word) (o p : OidPlace) (c : ℕ) (cs : List ℕ)
    → ((u : OidPlace) → run oid_step u cs ≡ Some p → run word_oid (word_step w c, u) cs ≡
    Some (words (word_step w c) cs, p))
    → option_and_then (λ u. run oid_step u cs) r ≡ Some p → option_and_then (λ t. run word_oid t cs)
    (option_map (λ p. (word_step w c, p)) r) ≡ Some (words (word_step w c) cs, p)
worded_at None w o p c cs h e = absurd (none_some e)
worded_at (Some u) w o p c cs h e = h u e

pub worded : (w : Word) (o p : OidPlace) (cs : List ℕ) → run oid_step o cs ≡ Some p → run word_oid (w, o) cs ≡
    Some (words w cs, p)
worded w o p [] e = ap (λ u. Some (w, u)) (some_same e)
worded w o p (c ∷ cs) e = worded_at (oid_step o c) w o p c cs (λ u f. worded (word_step w c) u p cs f) e

-- and back
abbrev Unworded : Word → OidPlace → Worded → List ℕ → Type 0
Unworded w o t cs = (run oid_step o cs ≡ Some t.1) × (t.0 ≡ words w cs)

unworded_at : (r : Option OidPlace) (w : Word) (o : OidPlace) (t : Worded) (c : ℕ) (cs : List ℕ)
    → ((u : OidPlace) → run word_oid (word_step w c, u) cs ≡ Some t → Unworded (word_step w c) u t cs)
    → option_and_then (λ s. run word_oid s cs) (option_map (λ p. (word_step w c, p)) r) ≡ Some t →
    (option_and_then (λ u. run oid_step u cs) r ≡ Some t.1) × (t.0 ≡ words (word_step w c) cs)
unworded_at None w o t c cs h e = absurd (none_some e)
unworded_at (Some u) w o t c cs h e = h u e

pub unworded : (w : Word) (o : OidPlace) (t : Worded) (cs : List ℕ) → run word_oid (w, o) cs ≡ Some t →
    Unworded w o t cs
unworded w o t [] e = (ap (λ (s : Worded). Some s.1) (some_same e), sym (ap (λ (s : Worded). s.0) (some_same e)))
unworded w o t (c ∷ cs) e = unworded_at (oid_step o c) w o t c cs (λ u f. unworded (word_step w c) u t cs f) e
