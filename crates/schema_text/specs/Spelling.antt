-- The grammar of quoted texts and lists: RFC 4512 1.4.
use Rattle.std.specs.Prelude.{ℕ, List, [], ◌∷◌, Bool, true, false, ◌||◌, Some, nat_eq, ◌≡◌, ◌↔◌}
use Rattle.schema_text.specs.Tokens.{bare, tokens_of}
use Rattle.schema_text.specs.declared.token.Token.{Token}
use Rattle.schema_text.specs.declared.token.Token.TheVariants.{Quoted, Open, Close}

-- a parenthesis or a quote
abbrev pub is_mark : ℕ → Bool
is_mark c = nat_eq c 40 || nat_eq c 41 || nat_eq c 39

-- octets are tokens, inside a list or not, and inside quotes or not: a list begins outside lists and ends before
-- another begins; between quotes stand all octets but the quote and the backslash, which are spelled `\27` and `\5C`
-- (RFC 4512 1.4, dstring, QQ and QS)
pub data IsSpelled : Bool → Bool → List ℕ → List Token → Type 0 where
  ends : IsSpelled false false [] []
  stands : {cs : List ℕ} {ts : List Token} (b : Bool) (c : ℕ) → is_mark c ≡ false → IsSpelled b false cs ts →
      IsSpelled b false (c ∷ cs) (bare b c ∷ ts)
  list_begins : {cs : List ℕ} {ts : List Token} → IsSpelled true false cs ts → IsSpelled false false (40 ∷ cs)
      (Open ∷ ts)
  list_ends : {cs : List ℕ} {ts : List Token} → IsSpelled false false cs ts → IsSpelled true false (41 ∷ cs)
      (Close ∷ ts)
  quote_begins : {cs : List ℕ} {ts : List Token} (b : Bool) → IsSpelled b true cs ts → IsSpelled b false (39 ∷ cs)
      (bare b 39 ∷ ts)
  quote_ends : {cs : List ℕ} {ts : List Token} (b : Bool) → IsSpelled b false cs ts → IsSpelled b true (39 ∷ cs)
      (bare b 39 ∷ ts)
  stands_quoted : {cs : List ℕ} {ts : List Token} (b : Bool) (c : ℕ) → (nat_eq c 39 || nat_eq c 92) ≡ false →
      IsSpelled b true cs ts → IsSpelled b true (c ∷ cs) (Quoted c ∷ ts)
  quote_spelled : {cs : List ℕ} {ts : List Token} (b : Bool) → IsSpelled b true cs ts →
      IsSpelled b true (92 ∷ 50 ∷ 55 ∷ cs) (Quoted 92 ∷ Quoted 50 ∷ Quoted 55 ∷ ts)
  backslash_spelled : {cs : List ℕ} {ts : List Token} (b : Bool) (c : ℕ) → (nat_eq c 67 || nat_eq c 99) ≡ true →
      IsSpelled b true cs ts → IsSpelled b true (92 ∷ 53 ∷ c ∷ cs) (Quoted 92 ∷ Quoted 53 ∷ Quoted c ∷ ts)

-- The tokens of octets are those that they are by the grammar, outside lists and quotes.
abbrev pub TokensAreSpelled : Type 0
TokensAreSpelled = (octets : List ℕ) (ts : List Token) → (tokens_of octets ≡ Some ts) ↔ IsSpelled false false octets ts
