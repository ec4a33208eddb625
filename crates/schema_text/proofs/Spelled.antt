-- The scan of octets, and the grammar of quoted texts and lists: each is the other.
use Rattle.std.proofs.Common.{ℕ, List, [], ◌∷◌, ◌++◌, Bool, true, false, cond, ◌&&◌, ◌||◌, None, Some, nat_eq, ◌≡◌, refl, sym, ap, ◌∙◌, append-nil, subst}
use Rattle.std.proofs.lemmas.Bool.{eqb-true}
use Rattle.schema_text.specs.Tokens.{bare, standing, step, stepped, scanned}
use Rattle.schema_text.specs.Spelling.{is_mark, IsSpelled, ends, stands, list_begins, list_ends, quote_begins, quote_ends, stands_quoted, quote_spelled, backslash_spelled, TokensAreSpelled}
use Rattle.schema_text.specs.declared.token.Token.{Token}
use Rattle.schema_text.specs.declared.token.Token.TheVariants.{Outer, Inner, Quoted, Open, Close}
use Rattle.schema_text.specs.declared.token.Scan.{Scan}
use Rattle.schema_text.specs.declared.token.Scan.TheVariants.{Outside, Inside, Quote, Escape, Half}
use Rattle.schema_text.specs.declared.token.Step.{Step}
use Rattle.schema_text.specs.declared.token.Step.TheVariants.{Refuses, Gives}

none_some : {A : Type 0} {x : A} → None ≡ Some x → ⊥
none_some h = cc

some_same : {A : Type 0} {x y : A} → Some x ≡ Some y → x ≡ y
some_same h = cc

pub push_onto : {A : Type 0} (xs : List A) (y : A) (ys : List A) → (xs ++ y ∷ []) ++ ys ≡ xs ++ y ∷ ys
push_onto [] y ys = refl
push_onto (x ∷ xs) y ys = ap (λ l. x ∷ l) (push_onto xs y ys)

abbrev scan_at : Bool → Bool → Scan
scan_at b true = Quote b
scan_at b false = standing b

third_of : {A : Type 0} (x y z : Bool) (p q r s : A) → (x || y || z) ≡ false → cond x p (cond y q (cond z r s)) ≡ s
third_of false false false p q r s h = refl
third_of false false true p q r s h = absurd (cc)
third_of false true z p q r s h = absurd (cc)
third_of true y z p q r s h = absurd (cc)

second_of : {A : Type 0} (x y : Bool) (p q r : A) → (x || y) ≡ false → cond x p (cond y q r) ≡ r
second_of false false p q r h = refl
second_of false true p q r h = absurd (cc)
second_of true y p q r h = absurd (cc)

stands_by : (b : Bool) (c : ℕ) → is_mark c ≡ false → step (standing b) c ≡ Gives (bare b c) (standing b)
stands_by false c h = third_of (nat_eq c 40) (nat_eq c 41) (nat_eq c 39) (Gives Open Inside) Refuses
    (Gives (Outer c) (Quote false)) (Gives (Outer c) Outside) h
stands_by true c h = third_of (nat_eq c 40) (nat_eq c 41) (nat_eq c 39) Refuses (Gives Close Outside)
    (Gives (Inner c) (Quote true)) (Gives (Inner c) Inside) h

begins_by : (b : Bool) → step (standing b) 39 ≡ Gives (bare b 39) (Quote b)
begins_by false = refl
begins_by true = refl

-- a token more, and the rest
on : (acc : List Token) (s n : Scan) (c : ℕ) (cs : List ℕ) (t : Token) (ts : List Token) → step s c ≡ Gives t n →
    scanned (acc ++ t ∷ []) n cs ≡ Some ((acc ++ t ∷ []) ++ ts) → scanned acc s (c ∷ cs) ≡ Some (acc ++ t ∷ ts)
on acc s n c cs t ts e h = ap (λ (x : Step). stepped acc x (λ us m. scanned us m cs)) e ∙ h
    ∙ ap Some (push_onto acc t ts)

-- what is spelled is scanned
spelled_scanned : (acc : List Token) {b q : Bool} {text : List ℕ} {ts : List Token} → IsSpelled b q text ts →
    scanned acc (scan_at b q) text ≡ Some (acc ++ ts)
spelled_scanned acc ends = ap Some (sym (append-nil acc))
spelled_scanned acc (stands {cs} {ts} b c e s) = on acc (standing b) (standing b) c cs (bare b c) ts (stands_by b c e)
    (spelled_scanned (acc ++ bare b c ∷ []) s)
spelled_scanned acc (list_begins {cs} {ts} s) = on acc Outside Inside 40 cs Open ts refl
    (spelled_scanned (acc ++ Open ∷ []) s)
spelled_scanned acc (list_ends {cs} {ts} s) = on acc Inside Outside 41 cs Close ts refl
    (spelled_scanned (acc ++ Close ∷ []) s)
spelled_scanned acc (quote_begins {cs} {ts} b s) = on acc (standing b) (Quote b) 39 cs (bare b 39) ts (begins_by b)
    (spelled_scanned (acc ++ bare b 39 ∷ []) s)
spelled_scanned acc (quote_ends {cs} {ts} b s) = on acc (Quote b) (standing b) 39 cs (bare b 39) ts refl
    (spelled_scanned (acc ++ bare b 39 ∷ []) s)
spelled_scanned acc (stands_quoted {cs} {ts} b c e s) =
    on acc (Quote b) (Quote b) c cs (Quoted c) ts (second_of (nat_eq c 39) (nat_eq c 92)
    (Gives (bare b c) (standing b)) (Gives (Quoted c) (Escape b)) (Gives (Quoted c) (Quote b)) e)
    (spelled_scanned (acc ++ Quoted c ∷ []) s)
spelled_scanned acc (quote_spelled {cs} {ts} b s) =
    on acc (Quote b) (Escape b) 92 (50 ∷ 55 ∷ cs) (Quoted 92) (Quoted 50 ∷ Quoted 55 ∷ ts) refl
    (on (acc ++ Quoted 92 ∷ []) (Escape b) (Half b 50) 50 (55 ∷ cs) (Quoted 50) (Quoted 55 ∷ ts) refl
    (on ((acc ++ Quoted 92 ∷ []) ++ Quoted 50 ∷ []) (Half b 50) (Quote b) 55 cs (Quoted 55) ts refl
    (spelled_scanned (((acc ++ Quoted 92 ∷ []) ++ Quoted 50 ∷ []) ++ Quoted 55 ∷ []) s)))
spelled_scanned acc (backslash_spelled {cs} {ts} b c e s) =
    on acc (Quote b) (Escape b) 92 (53 ∷ c ∷ cs) (Quoted 92) (Quoted 53 ∷ Quoted c ∷ ts) refl
    (on (acc ++ Quoted 92 ∷ []) (Escape b) (Half b 53) 53 (c ∷ cs) (Quoted 53) (Quoted c ∷ ts) refl
    (on ((acc ++ Quoted 92 ∷ []) ++ Quoted 53 ∷ []) (Half b 53) (Quote b) c cs (Quoted c) ts
    (ap (λ (x : Bool). cond x (Gives (Quoted c) (Quote b)) Refuses) e)
    (spelled_scanned (((acc ++ Quoted 92 ∷ []) ++ Quoted 53 ∷ []) ++ Quoted c ∷ []) s)))

-- tokens behind those before, which the octets spell
record Found (acc : List Token) (b q : Bool) (text : List ℕ) (us : List Token) : Type 0 where
  ts : List Token
  is_all : us ≡ acc ++ ts
  is_spelled : IsSpelled b q text ts

put : (acc : List Token) (t : Token) (b q c p : Bool) (text rest : List ℕ) (us : List Token) →
    ((ts : List Token) → IsSpelled c p rest ts → IsSpelled b q text (t ∷ ts)) → Found (acc ++ t ∷ []) c p rest us →
    Found acc b q text us
put acc t b q c p text rest us more f = record {
  ts = t ∷ f.ts;
  is_all = f.is_all ∙ push_onto acc t f.ts;
  is_spelled =
      more f.ts f.is_spelled;
}

abbrev Further : List ℕ → List Token → Type 0
Further cs us = (a : List Token) (b q : Bool) → scanned a (scan_at b q) cs ≡ Some us → Found a b q cs us

no_mark : (c : ℕ) → nat_eq c 40 ≡ false → nat_eq c 41 ≡ false → nat_eq c 39 ≡ false → is_mark c ≡ false
no_mark c p q r = rw (p, q, r) refl

no_end : (c : ℕ) → nat_eq c 39 ≡ false → nat_eq c 92 ≡ false → (nat_eq c 39 || nat_eq c 92) ≡ false
no_end c p q = rw (p, q) refl

at_outside : (x y z : Bool) (acc : List Token) (c : ℕ) (cs : List ℕ) (us : List Token) → nat_eq c 40 ≡ x →
    nat_eq c 41 ≡ y → nat_eq c 39 ≡ z → Further cs us →
    stepped acc (cond x (Gives Open Inside)
    (cond y Refuses (cond z (Gives (Outer c) (Quote false)) (Gives (Outer c) Outside)))) (λ vs n. scanned vs n cs) ≡
    Some us → Found acc false false (c ∷ cs) us
at_outside true y z acc c cs us p q r more e =
    put acc Open false false true false (c ∷ cs) cs us
    (λ ts s. subst (λ (d : ℕ). IsSpelled false false (d ∷ cs) (Open ∷ ts)) (sym (eqb-true c 40 p))
    (list_begins s)) (more (acc ++ Open ∷ []) true false e)
at_outside false true z acc c cs us p q r more e = absurd (none_some e)
at_outside false false true acc c cs us p q r more e =
    put acc (Outer c) false false false true (c ∷ cs) cs us
    (λ ts s. subst (λ (d : ℕ). IsSpelled false false (d ∷ cs) (Outer d ∷ ts)) (sym (eqb-true c 39 r))
    (quote_begins false s)) (more (acc ++ Outer c ∷ []) false true e)
at_outside false false false acc c cs us p q r more e =
    put acc (Outer c) false false false false (c ∷ cs) cs us (λ ts s. stands false c (no_mark c p q r) s)
    (more (acc ++ Outer c ∷ []) false false e)

at_inside : (x y z : Bool) (acc : List Token) (c : ℕ) (cs : List ℕ) (us : List Token) → nat_eq c 40 ≡ x →
    nat_eq c 41 ≡ y → nat_eq c 39 ≡ z → Further cs us →
    stepped acc (cond x Refuses (cond y (Gives Close Outside) (cond z (Gives (Inner c) (Quote true))
    (Gives (Inner c) Inside)))) (λ vs n. scanned vs n cs) ≡ Some us → Found acc true false (c ∷ cs) us
at_inside true y z acc c cs us p q r more e = absurd (none_some e)
at_inside false true z acc c cs us p q r more e =
    put acc Close true false false false (c ∷ cs) cs us
    (λ ts s. subst (λ (d : ℕ). IsSpelled true false (d ∷ cs) (Close ∷ ts)) (sym (eqb-true c 41 q)) (list_ends s))
    (more (acc ++ Close ∷ []) false false e)
at_inside false false true acc c cs us p q r more e =
    put acc (Inner c) true false true true (c ∷ cs) cs us
    (λ ts s. subst (λ (d : ℕ). IsSpelled true false (d ∷ cs) (Inner d ∷ ts)) (sym (eqb-true c 39 r))
    (quote_begins true s)) (more (acc ++ Inner c ∷ []) true true e)
at_inside false false false acc c cs us p q r more e =
    put acc (Inner c) true false true false (c ∷ cs) cs us (λ ts s. stands true c (no_mark c p q r) s)
    (more (acc ++ Inner c ∷ []) true false e)

at_quote : (x y : Bool) (b : Bool) (acc : List Token) (c : ℕ) (cs : List ℕ) (us : List Token) → nat_eq c 39 ≡ x →
    nat_eq c 92 ≡ y → Further cs us → (scanned (acc ++ Quoted c ∷ []) (Escape b) cs ≡ Some us → nat_eq c 92 ≡ true →
    Found acc b true (c ∷ cs) us) →
    stepped acc (cond x (Gives (bare b c) (standing b)) (cond y (Gives (Quoted c) (Escape b))
    (Gives (Quoted c) (Quote b)))) (λ vs n. scanned vs n cs) ≡ Some us → Found acc b true (c ∷ cs) us
at_quote true y b acc c cs us p q more escape e =
    put acc (bare b c) b true b false (c ∷ cs) cs us
    (λ ts s. subst (λ (d : ℕ). IsSpelled b true (d ∷ cs) (bare b d ∷ ts)) (sym (eqb-true c 39 p))
    (quote_ends b s)) (more (acc ++ bare b c ∷ []) b false e)
at_quote false true b acc c cs us p q more escape e = escape e q
at_quote false false b acc c cs us p q more escape e =
    put acc (Quoted c) b true b true (c ∷ cs) cs us (λ ts s. stands_quoted b c (no_end c p q) s)
    (more (acc ++ Quoted c ∷ []) b true e)

at_any : (b q : Bool) (acc : List Token) (c : ℕ) (cs : List ℕ) (us : List Token) → Further cs us →
    (scanned (acc ++ Quoted c ∷ []) (Escape b) cs ≡ Some us → nat_eq c 92 ≡ true → Found acc b true (c ∷ cs) us) →
    scanned acc (scan_at b q) (c ∷ cs) ≡ Some us → Found acc b q (c ∷ cs) us
at_any false false acc c cs us more escape e = at_outside (nat_eq c 40) (nat_eq c 41) (nat_eq c 39) acc c cs us refl
    refl refl more e
at_any true false acc c cs us more escape e = at_inside (nat_eq c 40) (nat_eq c 41) (nat_eq c 39) acc c cs us refl
    refl refl more e
at_any false true acc c cs us more escape e = at_quote (nat_eq c 39) (nat_eq c 92) false acc c cs us refl refl more
    escape e
at_any true true acc c cs us more escape e = at_quote (nat_eq c 39) (nat_eq c 92) true acc c cs us refl refl more
    escape e

no_half : (x : Bool) (P : Type 0) (b : Bool) (acc : List Token) (d : ℕ) (us : List Token) →
    stepped acc (cond x (Gives (Quoted d) (Half b d)) Refuses) (λ vs n. scanned vs n []) ≡ Some us → P
no_half true P b acc d us e = absurd (none_some e)
no_half false P b acc d us e = absurd (none_some e)

pub and_one : (a b : Bool) → (a && b) ≡ true → a ≡ true
and_one true b h = refl
and_one false b h = h

pub and_two : (a b : Bool) → (a && b) ≡ true → b ≡ true
and_two true b h = h
and_two false b h = absurd (cc)

or_cases : {P : Type 0} (a b : Bool) → (a || b) ≡ true → (a ≡ true → P) → (b ≡ true → P) → P
or_cases true b h f g = f refl
or_cases false b h f g = g h

spelled_out : (b : Bool) (c d l : ℕ) (ls : List ℕ) (ts : List Token) → nat_eq c 92 ≡ true →
    ((nat_eq d 50 && nat_eq l 55) || (nat_eq d 53 && (nat_eq l 67 || nat_eq l 99))) ≡ true → IsSpelled b true ls ts →
    IsSpelled b true (c ∷ d ∷ l ∷ ls) (Quoted c ∷ Quoted d ∷ Quoted l ∷ ts)
spelled_out b c d l ls ts t h s =
    subst (λ (x : ℕ). IsSpelled b true (x ∷ d ∷ l ∷ ls) (Quoted x ∷ Quoted d ∷ Quoted l ∷ ts)) (sym (eqb-true c 92 t))
    (or_cases (nat_eq d 50 && nat_eq l 55) (nat_eq d 53 && (nat_eq l 67 || nat_eq l 99)) h
    (λ e. subst (λ (x : ℕ). IsSpelled b true (92 ∷ x ∷ l ∷ ls) (Quoted 92 ∷ Quoted x ∷ Quoted l ∷ ts))
    (sym (eqb-true d 50 (and_one _ (nat_eq l 55) e)))
    (subst (λ (x : ℕ). IsSpelled b true (92 ∷ 50 ∷ x ∷ ls) (Quoted 92 ∷ Quoted 50 ∷ Quoted x ∷ ts))
    (sym (eqb-true l 55 (and_two (nat_eq d 50) _ e))) (quote_spelled b s)))
    (λ e. subst (λ (x : ℕ). IsSpelled b true (92 ∷ x ∷ l ∷ ls) (Quoted 92 ∷ Quoted x ∷ Quoted l ∷ ts))
    (sym (eqb-true d 53 (and_one _ (nat_eq l 67 || nat_eq l 99) e)))
    (backslash_spelled b l (and_two (nat_eq d 53) _ e) s)))

at_half : (y : Bool) (b : Bool) (acc : List Token) (c d l : ℕ) (ls : List ℕ) (us : List Token) → nat_eq c 92 ≡ true →
    ((nat_eq d 50 && nat_eq l 55) || (nat_eq d 53 && (nat_eq l 67 || nat_eq l 99))) ≡ y → Further ls us →
    stepped ((acc ++ Quoted c ∷ []) ++ Quoted d ∷ []) (cond y (Gives (Quoted l) (Quote b)) Refuses)
    (λ vs n. scanned vs n ls) ≡ Some us → Found acc b true (c ∷ d ∷ l ∷ ls) us
at_half false b acc c d l ls us t h more e = absurd (none_some e)
at_half true b acc c d l ls us t h more e =
    let f = more (((acc ++ Quoted c ∷ []) ++ Quoted d ∷ []) ++ Quoted l ∷ []) b true e in
    record {
      ts = Quoted c ∷ Quoted d ∷ Quoted l ∷ f.ts;
      is_all = f.is_all ∙ push_onto ((acc ++ Quoted c ∷ []) ++ Quoted d ∷ []) (Quoted l) f.ts
          ∙ push_onto (acc ++ Quoted c ∷ []) (Quoted d) (Quoted l ∷ f.ts) ∙ push_onto acc (Quoted c)
          (Quoted d ∷ Quoted l ∷ f.ts);
      is_spelled = spelled_out b c d l ls f.ts t h f.is_spelled;
    }

at_escape : (x : Bool) (b : Bool) (acc : List Token) (c d l : ℕ) (ls : List ℕ) (us : List Token) → nat_eq c 92 ≡
    true → Further ls us → stepped (acc ++ Quoted c ∷ []) (cond x (Gives (Quoted d) (Half b d)) Refuses)
    (λ vs n. scanned vs n (l ∷ ls)) ≡ Some us → Found acc b true (c ∷ d ∷ l ∷ ls) us
at_escape false b acc c d l ls us t more e = absurd (none_some e)
at_escape true b acc c d l ls us t more e = at_half ((nat_eq d 50 && nat_eq l 55) || (nat_eq d 53
    && (nat_eq l 67 || nat_eq l 99))) b acc c d l ls us t refl more e

-- what is scanned is spelled
at_end : (b q : Bool) (acc us : List Token) → scanned acc (scan_at b q) [] ≡ Some us → Found acc b q [] us
at_end false false acc us e = record { ts = []; is_all = sym (some_same e) ∙ sym (append-nil acc); is_spelled = ends }
at_end true false acc us e = absurd (none_some e)
at_end false true acc us e = absurd (none_some e)
at_end true true acc us e = absurd (none_some e)

scanned_spelled : (text : List ℕ) (us : List Token) → Further text us
scanned_spelled [] us acc b q e = at_end b q acc us e
scanned_spelled (c ∷ []) us acc b q e = at_any b q acc c [] us (λ a d p f. scanned_spelled [] us a d p f)
    (λ f t. absurd (none_some f)) e
scanned_spelled (c ∷ d ∷ []) us acc b q e =
    at_any b q acc c (d ∷ []) us (λ a x p f. scanned_spelled (d ∷ []) us a x p f)
    (λ f t. no_half (nat_eq d 50 || nat_eq d 53) (Found acc b true (c ∷ d ∷ []) us) b (acc ++ Quoted c ∷ []) d us f) e
scanned_spelled (c ∷ d ∷ l ∷ ls) us acc b q e =
    at_any b q acc c (d ∷ l ∷ ls) us (λ a x p f. scanned_spelled (d ∷ l ∷ ls) us a x p f)
    (λ f t. at_escape (nat_eq d 50 || nat_eq d 53) b acc c d l ls us t (λ a x p g. scanned_spelled ls us a x p g) f) e

pub tokens_spelled : TokensAreSpelled
tokens_spelled text ts = (
  λ e. let f = scanned_spelled text ts [] false false e in subst (IsSpelled false false text) (sym f.is_all)
      f.is_spelled,
  λ s. spelled_scanned [] s,
)
