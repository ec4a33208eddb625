-- The scan of octets, and the grammar of escapes: each scan spells, and what is spelled is scanned.
use Rattle.std.proofs.Common.{ℕ, List, [], ◌∷◌, ◌++◌, Bool, true, false, cond, ◌||◌, Option, None, Some, nat_eq, ◌≡◌, refl, sym, ap, ◌∙◌, append-nil, subst}
use Rattle.std.proofs.lemmas.Bool.{eqb-true}
use Rattle.ldap_dn.specs.Tokens.{is_escapable, hex_digit, hex_octet, with_high}
use Rattle.ldap_dn.specs.Texts.{spelled, stepped, scanned}
use Rattle.ldap_dn.specs.Grammar.{IsSpelled, nothing, as_it_stands, by_itself, by_digits, TokensAreSpelled}
use Rattle.ldap_dn.specs.declared.token.Token.{Token}
use Rattle.ldap_dn.specs.declared.token.Token.TheVariants.{Plain, Escaped}
use Rattle.ldap_dn.specs.declared.token.Scan.TheVariants.{Between, Escape, Half}
use Rattle.ldap_dn.specs.declared.token.Step.TheVariants.{Reads, Gives}

pub push_onto : {A : Type 0} (xs : List A) (y : A) (ys : List A) → (xs ++ y ∷ []) ++ ys ≡ xs ++ y ∷ ys
push_onto [] y ys = refl
push_onto (x ∷ xs) y ys = ap (λ l. x ∷ l) (push_onto xs y ys)

true_false : true ≡ false → ⊥
true_false h = cc

pub none_some : {A : Type 0} {x : A} → None ≡ Some x → ⊥
none_some h = cc

pub some_same : {A : Type 0} {x y : A} → Some x ≡ Some y → x ≡ y
some_same h = cc

or_at : (a b : Bool) {P : Type 0} → (a ≡ true → P) → (b ≡ true → P) → (a || b) ≡ true → P
or_at true b f g e = f refl
or_at false b f g e = g e

no_digit_at : (h k : ℕ) → hex_digit k ≡ None → nat_eq h k ≡ true → hex_digit h ≡ None
no_digit_at h k n e = ap hex_digit (eqb-true h k e) ∙ n

no_digit : (h : ℕ) → is_escapable h ≡ true → hex_digit h ≡ None
no_digit h =
    or_at _ (nat_eq h 61)
    (or_at _ (nat_eq h 35)
    (or_at _ (nat_eq h 32)
    (or_at _ (nat_eq h 0)
    (or_at _ (nat_eq h 92)
    (or_at _ (nat_eq h 62)
    (or_at _ (nat_eq h 60)
    (or_at _ (nat_eq h 59)
    (or_at _ (nat_eq h 44)
    (or_at (nat_eq h 34) (nat_eq h 43)
    (no_digit_at h 34 refl)
    (no_digit_at h 43 refl))
    (no_digit_at h 44 refl))
    (no_digit_at h 59 refl))
    (no_digit_at h 60 refl))
    (no_digit_at h 62 refl))
    (no_digit_at h 92 refl))
    (no_digit_at h 0 refl))
    (no_digit_at h 32 refl))
    (no_digit_at h 35 refl))
    (no_digit_at h 61 refl)

digit_not_escapable : (b : Bool) (h l c : ℕ) → is_escapable h ≡ b → hex_octet h l ≡ Some c → b ≡ false
digit_not_escapable false h l c t e = refl
digit_not_escapable true h l c t e = absurd (none_some (sym (ap (λ o. with_high o (hex_digit l)) (no_digit h t)) ∙ e))

-- what is spelled is scanned
spelled_scanned : (acc : List Token) {text : List ℕ} {ts : List Token} → IsSpelled text ts →
    scanned acc Between text ≡ Some (acc ++ ts)
spelled_scanned acc nothing = ap Some (sym (append-nil acc))
spelled_scanned acc (as_it_stands {cs} {ts} c e s) =
    ap (λ b. stepped acc (cond b (Reads Escape) (Gives (Plain c))) (λ us n. scanned us n cs)) e
    ∙ spelled_scanned (acc ++ Plain c ∷ []) s
    ∙ ap Some (push_onto acc (Plain c) ts)
spelled_scanned acc (by_itself {cs} {ts} c e s) =
    ap (λ b. stepped acc (cond b (Gives (Escaped c)) (Reads (Half c))) (λ us n. scanned us n cs)) e
    ∙ spelled_scanned (acc ++ Escaped c ∷ []) s
    ∙ ap Some (push_onto acc (Escaped c) ts)
spelled_scanned acc (by_digits {cs} {ts} h l c e s) =
    ap (λ b. stepped acc (cond b (Gives (Escaped h)) (Reads (Half h))) (λ us n. scanned us n (l ∷ cs)))
    (digit_not_escapable (is_escapable h) h l c refl e)
    ∙ ap (λ o. stepped acc (spelled o) (λ us n. scanned us n cs)) e
    ∙ spelled_scanned (acc ++ Escaped c ∷ []) s
    ∙ ap Some (push_onto acc (Escaped c) ts)

-- tokens behind those before, which the text spells
record Found (acc : List Token) (text : List ℕ) (us : List Token) : Type 0 where
  ts : List Token
  is_all : us ≡ acc ++ ts
  is_spelled : IsSpelled text ts

put : (acc : List Token) (t : Token) (text rest : List ℕ) (us : List Token) → ((ts : List Token) → IsSpelled rest ts →
    IsSpelled text (t ∷ ts)) → Found (acc ++ t ∷ []) rest us → Found acc text us
put acc t text rest us more f = record {
  ts = t ∷ f.ts;
  is_all = f.is_all ∙ push_onto acc t f.ts;
  is_spelled =
      more f.ts f.is_spelled;
}

backslash : (c : ℕ) {cs : List ℕ} {ts : List Token} → nat_eq c 92 ≡ true → IsSpelled (92 ∷ cs) ts →
    IsSpelled (c ∷ cs) ts
backslash c {cs} {ts} t s = subst (λ d. IsSpelled (d ∷ cs) ts) (sym (eqb-true c 92 t)) s

at_first : (b : Bool) (acc : List Token) (c : ℕ) (cs : List ℕ) (us : List Token) → nat_eq c 92 ≡ b →
    ((a : List Token) → scanned a Between cs ≡ Some us → Found a cs us) → (scanned acc Escape cs ≡ Some us →
    nat_eq c 92 ≡ true → Found acc (c ∷ cs) us) → stepped acc (cond b (Reads Escape) (Gives (Plain c)))
    (λ vs n. scanned vs n cs) ≡ Some us → Found acc (c ∷ cs) us
at_first false acc c cs us t plain escape e = put acc (Plain c) (c ∷ cs) cs us (λ ts s. as_it_stands c t s)
    (plain (acc ++ Plain c ∷ []) e)
at_first true acc c cs us t plain escape e = escape e t

at_second : (b : Bool) (acc : List Token) (c d : ℕ) (ds : List ℕ) (us : List Token) → nat_eq c 92 ≡ true →
    is_escapable d ≡ b → ((a : List Token) → scanned a Between ds ≡ Some us → Found a ds us) →
    (scanned acc (Half d) ds ≡ Some us → Found acc (c ∷ d ∷ ds) us) →
    stepped acc (cond b (Gives (Escaped d)) (Reads (Half d))) (λ vs n. scanned vs n ds) ≡ Some us →
    Found acc (c ∷ d ∷ ds) us
at_second true acc c d ds us t p between half e = put acc (Escaped d) (c ∷ d ∷ ds) ds us
    (λ ts s. backslash c t (by_itself d p s)) (between (acc ++ Escaped d ∷ []) e)
at_second false acc c d ds us t p between half e = half e

at_third : (o : Option ℕ) (acc : List Token) (c h l : ℕ) (ls : List ℕ) (us : List Token) → nat_eq c 92 ≡ true →
    hex_octet h l ≡ o → ((a : List Token) → scanned a Between ls ≡ Some us → Found a ls us) →
    stepped acc (spelled o) (λ vs n. scanned vs n ls) ≡ Some us → Found acc (c ∷ h ∷ l ∷ ls) us
at_third None acc c h l ls us t p between e = absurd (none_some e)
at_third (Some o) acc c h l ls us t p between e = put acc (Escaped o) (c ∷ h ∷ l ∷ ls) ls us
    (λ ts s. backslash c t (by_digits h l o p s)) (between (acc ++ Escaped o ∷ []) e)

-- what is scanned is spelled
scanned_spelled : (acc : List Token) (text : List ℕ) (us : List Token) → scanned acc Between text ≡ Some us →
    Found acc text us
scanned_spelled acc [] us e = record {
  ts = [];
  is_all = sym (some_same e) ∙ sym (append-nil acc);
  is_spelled =
      nothing;
}
scanned_spelled acc (c ∷ []) us e = at_first (nat_eq c 92) acc c [] us refl (λ a f. scanned_spelled a [] us f)
    (λ f t. absurd (none_some f)) e
scanned_spelled acc (c ∷ d ∷ []) us e =
    at_first (nat_eq c 92) acc c (d ∷ []) us refl (λ a f. scanned_spelled a (d ∷ []) us f)
    (λ f t. at_second (is_escapable d) acc c d [] us t refl (λ a g. scanned_spelled a [] us g)
    (λ g. absurd (none_some g)) f)
    e
scanned_spelled acc (c ∷ d ∷ l ∷ ls) us e =
    at_first (nat_eq c 92) acc c (d ∷ l ∷ ls) us refl (λ a f. scanned_spelled a (d ∷ l ∷ ls) us f)
    (λ f t. at_second (is_escapable d) acc c d (l ∷ ls) us t refl (λ a g. scanned_spelled a (l ∷ ls) us g)
    (λ g. at_third (hex_octet d l) acc c d l ls us t refl (λ a k. scanned_spelled a ls us k) g)
    f)
    e

pub tokens_spelled : TokensAreSpelled
tokens_spelled text ts = (
  λ e. let f = scanned_spelled [] text ts e in subst (IsSpelled text) (sym f.is_all) f.is_spelled,
  λ s. spelled_scanned [] s,
)
