-- Tokens cut at separators, and the grammar of separators: each is the other.
use Rattle.std.proofs.Common.{ℕ, List, [], ◌∷◌, Bool, true, false, cond, ◌≡◌, refl, sym, ap, ◌∙◌, subst}
use Rattle.std.proofs.lemmas.List.Elements.{All-nil, All-cons}
use Rattle.std.specs.List.{slice_split, onto_first}
use Rattle.std.proofs.lemmas.Bool.{eqb-true, eq-eqb}
use Rattle.std.proofs.lemmas.List.Splits.{slice_split_none, slice_split_at}
use Rattle.ldap_dn.specs.Tokens.{is_plain}
use Rattle.ldap_dn.specs.Parted.{IsParted, is_last, has_more, PartsAreParted}
use Rattle.ldap_dn.specs.declared.token.Token.{Token}
use Rattle.ldap_dn.specs.declared.token.Token.TheVariants.{Plain, Escaped}

pub parted_split : (c : ℕ) {ts : List Token} {parts : List (List Token)} → IsParted c ts parts →
    slice_split (is_plain c) ts ≡ parts
parted_split c (is_last ts h) = slice_split_none (is_plain c) ts h
parted_split c (has_more {rest} ts h q) = slice_split_at (is_plain c) ts (Plain c) rest h (eq-eqb c c refl)
    ∙ ap (λ l. ts ∷ l) (parted_split c q)

is_separator : (c : ℕ) (t : Token) → is_plain c t ≡ true → Plain c ≡ t
is_separator c (Plain d) e = ap Plain (sym (eqb-true d c e))
is_separator c (Escaped d) e = absurd (cc)

onto : (c : ℕ) (t : Token) → is_plain c t ≡ false → {ts : List Token} {parts : List (List Token)} →
    IsParted c ts parts → IsParted c (t ∷ ts) (onto_first t parts)
onto c t f (is_last ts h) = is_last (t ∷ ts) (All-cons (λ u. is_plain c u ≡ false) t ts f h)
onto c t f (has_more ts h q) = has_more (t ∷ ts) (All-cons (λ u. is_plain c u ≡ false) t ts f h) q

at_token : (b : Bool) (c : ℕ) (t : Token) (ts : List Token) → is_plain c t ≡ b →
    IsParted c ts (slice_split (is_plain c) ts) → IsParted c (t ∷ ts) (cond b ([] ∷ slice_split (is_plain c) ts)
    (onto_first t (slice_split (is_plain c) ts)))
at_token true c t ts e q = subst (λ u. IsParted c (u ∷ ts) ([] ∷ slice_split (is_plain c) ts)) (is_separator c t e)
    (has_more [] (All-nil (λ u. is_plain c u ≡ false)) q)
at_token false c t ts e q = onto c t e q

pub split_parted : (c : ℕ) (ts : List Token) → IsParted c ts (slice_split (is_plain c) ts)
split_parted c [] = is_last [] (All-nil (λ u. is_plain c u ≡ false))
split_parted c (t ∷ ts) = at_token (is_plain c t) c t ts refl (split_parted c ts)

pub parts_parted : PartsAreParted
parts_parted c ts parts = (λ e. subst (IsParted c ts) e (split_parted c ts), λ q. parted_split c q)
