-- The octets of a description between its outer parentheses, each as what it stands for: RFC 4512 1.4.
use Rattle.std.specs.Prelude.{ℕ, List, [], ◌∷◌, ◌++◌, Bool, true, false, cond, ◌||◌, ◌&&◌, Option, None, Some, nat_eq}
use Rattle.schema_text.specs.declared.token.Token.{Token}
use Rattle.schema_text.specs.declared.token.Token.TheVariants.{Outer, Inner, Quoted, Open, Close}
use Rattle.schema_text.specs.declared.token.Scan.{Scan}
use Rattle.schema_text.specs.declared.token.Scan.TheVariants.{Outside, Inside, Quote, Escape, Half}
use Rattle.schema_text.specs.declared.token.Step.{Step}
use Rattle.schema_text.specs.declared.token.Step.TheVariants.{Refuses, Gives}

-- an octet that is no part of a quoted text, outside a list or inside
abbrev pub bare : Bool → ℕ → Token
bare false c = Outer c
bare true c = Inner c

-- where a reader stands between quoted texts, outside a list or inside
abbrev pub standing : Bool → Scan
standing false = Outside
standing true = Inside

-- what an octet does outside a list, inside one, inside a quoted text, behind a backslash of it, and behind a backslash
-- and a digit: `\27` is a quote, `\5C` a backslash (RFC 4512 1.4, dstring)
abbrev pub step : Scan → ℕ → Step
step Outside c =
    cond (nat_eq c 40) (Gives Open Inside)
    (cond (nat_eq c 41) Refuses
    (cond (nat_eq c 39) (Gives (Outer c) (Quote false)) (Gives (Outer c) Outside)))
step Inside c =
    cond (nat_eq c 40) Refuses
    (cond (nat_eq c 41) (Gives Close Outside)
    (cond (nat_eq c 39) (Gives (Inner c) (Quote true)) (Gives (Inner c) Inside)))
step (Quote b) c =
    cond (nat_eq c 39) (Gives (bare b c) (standing b))
    (cond (nat_eq c 92) (Gives (Quoted c) (Escape b)) (Gives (Quoted c) (Quote b)))
step (Escape b) c = cond (nat_eq c 50 || nat_eq c 53) (Gives (Quoted c) (Half b c)) Refuses
step (Half b d) c =
    cond ((nat_eq d 50 && nat_eq c 55) || (nat_eq d 53 && (nat_eq c 67 || nat_eq c 99))) (Gives (Quoted c) (Quote b))
    Refuses

-- the octets end outside lists and quoted texts
abbrev pub ended : List Token → Scan → Option (List Token)
ended ts Outside = Some ts
ended ts Inside = None
ended ts (Quote b) = None
ended ts (Escape b) = None
ended ts (Half b d) = None

-- one more token behind those so far, and the reading goes on; none, where the octet is refused
abbrev pub stepped : List Token → Step → (List Token → Scan → Option (List Token)) → Option (List Token)
stepped ts Refuses f = None
stepped ts (Gives t s) f = f (ts ++ t ∷ []) s

-- the tokens so far, and those of the octets that follow
abbrev pub scanned : List Token → Scan → List ℕ → Option (List Token)
scanned ts s [] = ended ts s
scanned ts s (c ∷ cs) = stepped ts (step s c) (λ us n. scanned us n cs)

-- the tokens of octets
abbrev pub tokens_of : List ℕ → Option (List Token)
tokens_of octets = scanned [] Outside octets

-- the octet of a token
abbrev pub octet_of : Token → ℕ
octet_of (Outer c) = c
octet_of (Inner c) = c
octet_of (Quoted c) = c
octet_of Open = 40
octet_of Close = 41

-- whether a token stands outside lists and quoted texts
abbrev pub is_outer : Token → Bool
is_outer (Outer c) = true
is_outer (Inner c) = false
is_outer (Quoted c) = false
is_outer Open = false
is_outer Close = false

-- whether a token stands inside a list, and in no quoted text
abbrev pub is_inner : Token → Bool
is_inner (Outer c) = false
is_inner (Inner c) = true
is_inner (Quoted c) = false
is_inner Open = false
is_inner Close = false

-- whether a token stands in a quoted text
abbrev pub is_quoted : Token → Bool
is_quoted (Outer c) = false
is_quoted (Inner c) = false
is_quoted (Quoted c) = true
is_quoted Open = false
is_quoted Close = false

-- a parenthesis that begins a list
abbrev pub is_open : Token → Bool
is_open (Outer c) = false
is_open (Inner c) = false
is_open (Quoted c) = false
is_open Open = true
is_open Close = false

-- a parenthesis that ends a list
abbrev pub is_close : Token → Bool
is_close (Outer c) = false
is_close (Inner c) = false
is_close (Quoted c) = false
is_close Open = false
is_close Close = true

-- this octet outside lists and quoted texts, or inside a list
abbrev pub is_bare : Bool → ℕ → Token → Bool
is_bare false c t = is_outer t && nat_eq (octet_of t) c
is_bare true c t = is_inner t && nat_eq (octet_of t) c
