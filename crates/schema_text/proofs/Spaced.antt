-- Tokens cut at spaces, and the grammar of spaces: each is the other.
use Rattle.std.proofs.Common.{◌<◌, List, [], ◌∷◌, ◌++◌, Bool, true, false, cond, ◌≡◌, refl, sym, ap, ◌∙◌, subst, length, arith}
use Rattle.std.proofs.lemmas.Bool.Decides.{nat_tests}
use Rattle.std.proofs.lemmas.List.Elements.{All-nil, All-cons}
use Rattle.std.specs.List.{All, slice_split, onto_first, filter}
use Rattle.std.proofs.lemmas.List.Splits.{slice_split_none, slice_split_at}
use Rattle.schema_text.specs.Tokens.{is_bare}
use Rattle.schema_text.specs.Arguments.{is_some_piece, pieces}
use Rattle.schema_text.specs.Grammar.{IsSpaced, nothing, a_space, last_piece, a_piece}
use Rattle.schema_text.specs.declared.token.Token.{Token}

true_false : true ≡ false → ⊥
true_false h = cc

kept : (p : List Token) (ps : List (List Token)) → is_some_piece p ≡ true → filter is_some_piece (p ∷ ps) ≡
    p ∷ filter is_some_piece ps
kept p ps h = ap (λ (b : Bool). cond b (p ∷ filter is_some_piece ps) (filter is_some_piece ps)) h

-- what is spaced is cut so
pub spaced_cut : (b : Bool) {ts : List Token} {ps : List (List Token)} → IsSpaced b ts ps → pieces b ts ≡ ps
spaced_cut b nothing = refl
spaced_cut b (a_space {ts} {ps} t e q) =
    ap (filter is_some_piece) (ap (λ (c : Bool). cond c ([] ∷ slice_split (is_bare b 32) ts)
    (onto_first t (slice_split (is_bare b 32) ts))) e)
    ∙ spaced_cut b q
spaced_cut b (last_piece p n h) = ap (filter is_some_piece) (slice_split_none (is_bare b 32) p h) ∙ kept p [] n
spaced_cut b (a_piece {ts} {ps} p t n h e q) =
    ap (filter is_some_piece) (slice_split_at (is_bare b 32) p t ts h e) ∙ kept p (slice_split (is_bare b 32) ts) n
    ∙ ap (λ (l : List (List Token)). p ∷ l) (spaced_cut b q)

-- tokens are a front without spaces, and nothing or a space and more behind it
data IsFronted (b : Bool) : List Token → List (List Token) → Type 0 where
  to_end : (p : List Token) → All (λ t. is_bare b 32 t ≡ false) p → IsFronted b p (p ∷ [])
  to_space : {ts : List Token} {parts : List (List Token)} (p : List Token) (t : Token) →
      All (λ u. is_bare b 32 u ≡ false) p → is_bare b 32 t ≡ true → IsSpaced b ts (filter is_some_piece parts) →
      IsFronted b (p ++ t ∷ ts) (p ∷ parts)

some_piece : (t : Token) (p : List Token) → is_some_piece (t ∷ p) ≡ true
some_piece t p = let lt : 0 < length (t ∷ p) = omega arith in grind (arith, nat_tests, lt)

front_spaced : (b : Bool) {ts : List Token} {parts : List (List Token)} → IsFronted b ts parts →
    IsSpaced b ts (filter is_some_piece parts)
front_spaced b (to_end [] h) = nothing
front_spaced b (to_end (t ∷ p) h) = subst (IsSpaced b (t ∷ p)) (sym (kept (t ∷ p) [] (some_piece t p)))
    (last_piece (t ∷ p) (some_piece t p) h)
front_spaced b (to_space [] t h e q) = a_space t e q
front_spaced b (to_space {ts} {parts} (u ∷ p) t h e q) =
    subst (IsSpaced b ((u ∷ p) ++ t ∷ ts)) (sym (kept (u ∷ p) parts (some_piece u p)))
    (a_piece (u ∷ p) t (some_piece u p) h e q)

onto : (b : Bool) (t : Token) → is_bare b 32 t ≡ false → {ts : List Token} {parts : List (List Token)} →
    IsFronted b ts parts → IsFronted b (t ∷ ts) (onto_first t parts)
onto b t f (to_end p h) = to_end (t ∷ p) (All-cons (λ u. is_bare b 32 u ≡ false) t p f h)
onto b t f (to_space p u h e q) = to_space (t ∷ p) u (All-cons (λ v. is_bare b 32 v ≡ false) t p f h) e q

at_token : (c b : Bool) (t : Token) (ts : List Token) → is_bare b 32 t ≡ c →
    IsFronted b ts (slice_split (is_bare b 32) ts) → IsFronted b (t ∷ ts) (cond c ([] ∷ slice_split (is_bare b 32) ts)
    (onto_first t (slice_split (is_bare b 32) ts)))
at_token true b t ts e q = to_space [] t (All-nil (λ u. is_bare b 32 u ≡ false)) e (front_spaced b q)
at_token false b t ts e q = onto b t e q

fronted : (b : Bool) (ts : List Token) → IsFronted b ts (slice_split (is_bare b 32) ts)
fronted b [] = to_end [] (All-nil (λ u. is_bare b 32 u ≡ false))
fronted b (t ∷ ts) = at_token (is_bare b 32 t) b t ts refl (fronted b ts)

-- what is cut is spaced so
pub cut_spaced : (b : Bool) (ts : List Token) → IsSpaced b ts (pieces b ts)
cut_spaced b ts = front_spaced b (fronted b ts)
