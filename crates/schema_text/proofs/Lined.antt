-- The lines of a text, and the grammar of lines: each is the other.
use Rattle.std.proofs.Common.{ℕ, ◌-◌, suc, List, [], ◌∷◌, ◌++◌, Bool, true, false, cond, ◌≡◌, refl, sym, ap, ◌∙◌, subst, map, length, take, nat_eq, nat_lt, arith}
use Rattle.std.proofs.lemmas.Bool.Decides.{nat_tests}
use Rattle.std.proofs.lemmas.List.Elements.{All-nil, All-cons}
use Rattle.std.specs.List.{slice_split, onto_first, slice_get}
use Rattle.std.proofs.lemmas.Bool.{eqb-true}
use Rattle.std.proofs.lemmas.List.Splits.{slice_split_none, slice_split_at}
use Rattle.schema_text.specs.Texts.{without_return, one_line, lines_of_parts, lines_of}
use Rattle.schema_text.specs.Lines.{LacksFeed, AreLines, no_line, last_line, a_line, LinesAreOfText}
use Rattle.ldap_words.specs.Words.{part_or_nothing}

-- one more part before parts is one more line
more_parts : (p q : List ℕ) (ps : List (List ℕ)) → lines_of_parts (p ∷ q ∷ ps) ≡ without_return p ∷ lines_of_parts
    (q ∷ ps)
more_parts p q ps =
    let e : length (p ∷ q ∷ ps) - 1 ≡ suc (length (q ∷ ps) - 1) = omega arith in
    ap (λ n. map without_return (take n (p ∷ q ∷ ps)) ++ one_line (part_or_nothing (slice_get (p ∷ q ∷ ps) n))) e

data IsParted : List ℕ → List (List ℕ) → Type 0 where
  is_last : (ts : List ℕ) → LacksFeed ts → IsParted ts (ts ∷ [])
  has_more : {rest : List ℕ} {q : List ℕ} {ps : List (List ℕ)} (ts : List ℕ) → LacksFeed ts → IsParted rest (q ∷ ps) →
      IsParted (ts ++ 10 ∷ rest) (ts ∷ q ∷ ps)

some_octets : (n : ℕ) → nat_lt 0 (suc n) ≡ true
some_octets n = grind (arith, nat_tests)

one_full : (c : ℕ) (cs : List ℕ) → one_line (c ∷ cs) ≡ (c ∷ cs) ∷ []
one_full c cs = ap (λ b. cond b ((c ∷ cs) ∷ []) []) (some_octets (length cs))

last_lines : (ts : List ℕ) → LacksFeed ts → AreLines ts (one_line ts)
last_lines [] h = no_line
last_lines (c ∷ cs) h = subst (AreLines (c ∷ cs)) (sym (one_full c cs)) (last_line c cs h)

lines_from : {text : List ℕ} {parts : List (List ℕ)} → IsParted text parts → AreLines text (lines_of_parts parts)
lines_from (is_last ts h) = last_lines ts h
lines_from (has_more {rest} {q} {ps} ts h r) = subst (AreLines (ts ++ 10 ∷ rest)) (sym (more_parts ts q ps))
    (a_line ts h (lines_from r))

onto : (t : ℕ) → nat_eq 10 t ≡ false → {ts : List ℕ} {parts : List (List ℕ)} → IsParted ts parts →
    IsParted (t ∷ ts) (onto_first t parts)
onto t f (is_last ts h) = is_last (t ∷ ts) (All-cons (λ u. nat_eq 10 u ≡ false) t ts f h)
onto t f (has_more ts h r) = has_more (t ∷ ts) (All-cons (λ u. nat_eq 10 u ≡ false) t ts f h) r

before : {ts : List ℕ} {parts : List (List ℕ)} → IsParted ts parts → IsParted (10 ∷ ts) ([] ∷ parts)
before (is_last ts h) = has_more [] (All-nil (λ u. nat_eq 10 u ≡ false)) (is_last ts h)
before (has_more ts h r) = has_more [] (All-nil (λ u. nat_eq 10 u ≡ false)) (has_more ts h r)

at_octet : (b : Bool) (t : ℕ) (ts : List ℕ) → nat_eq 10 t ≡ b → IsParted ts (slice_split (nat_eq 10) ts) →
    IsParted (t ∷ ts) (cond b ([] ∷ slice_split (nat_eq 10) ts) (onto_first t (slice_split (nat_eq 10) ts)))
at_octet true t ts e r = subst (λ u. IsParted (u ∷ ts) ([] ∷ slice_split (nat_eq 10) ts)) (eqb-true 10 t e) (before r)
at_octet false t ts e r = onto t e r

split_parted : (ts : List ℕ) → IsParted ts (slice_split (nat_eq 10) ts)
split_parted [] = is_last [] (All-nil (λ u. nat_eq 10 u ≡ false))
split_parted (t ∷ ts) = at_octet (nat_eq 10 t) t ts refl (split_parted ts)

-- one more line before those of parts
more_by : {ts : List ℕ} {parts : List (List ℕ)} (p : List ℕ) → IsParted ts parts → lines_of_parts (p ∷ parts) ≡
    without_return p ∷ lines_of_parts parts
more_by p (is_last ts h) = more_parts p ts []
more_by p (has_more {rest} {q} {ps} ts h r) = more_parts p ts (q ∷ ps)

found : {text : List ℕ} {ls : List (List ℕ)} → AreLines text ls → lines_of text ≡ ls
found no_line = refl
found (last_line c cs h) = ap lines_of_parts (slice_split_none (nat_eq 10) (c ∷ cs) h) ∙ one_full c cs
found (a_line {rest} l h r) =
    ap lines_of_parts (slice_split_at (nat_eq 10) l 10 rest h refl)
    ∙ more_by l (split_parted rest)
    ∙ ap (λ (ls : List (List ℕ)). without_return l ∷ ls) (found r)

pub lines_of_text : LinesAreOfText
lines_of_text text ls = (λ e. subst (AreLines text) e (lines_from (split_parted text)), λ r. found r)
