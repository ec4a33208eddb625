-- The grammar of escapes: RFC 4514 3.
use Rattle.std.specs.Prelude.{ℕ, List, [], ◌∷◌, true, false, Some, nat_eq, ◌≡◌, ◌↔◌}
use Rattle.ldap_dn.specs.Tokens.{is_escapable, hex_octet}
use Rattle.ldap_dn.specs.Texts.{tokens_of}
use Rattle.ldap_dn.specs.declared.token.Token.{Token}
use Rattle.ldap_dn.specs.declared.token.Token.TheVariants.{Plain, Escaped}

-- a text spells octets: each one but backslash stands for itself; a backslash and an octet that it may stand before
-- spell that octet, and a backslash and two hexadecimal digits spell the octet of that number (RFC 4514 3, stringchar
-- and pair)
pub data IsSpelled : List ℕ → List Token → Type 0 where
  nothing : IsSpelled [] []
  as_it_stands : {cs : List ℕ} {ts : List Token} (c : ℕ) → nat_eq c 92 ≡ false → IsSpelled cs ts →
      IsSpelled (c ∷ cs) (Plain c ∷ ts)
  by_itself : {cs : List ℕ} {ts : List Token} (c : ℕ) → is_escapable c ≡ true → IsSpelled cs ts →
      IsSpelled (92 ∷ c ∷ cs) (Escaped c ∷ ts)
  by_digits : {cs : List ℕ} {ts : List Token} (h l c : ℕ) → hex_octet h l ≡ Some c → IsSpelled cs ts →
      IsSpelled (92 ∷ h ∷ l ∷ cs) (Escaped c ∷ ts)

-- The tokens of a text are the octets that it spells, and a text without tokens spells none.
abbrev pub TokensAreSpelled : Type 0
TokensAreSpelled = (text : List ℕ) (ts : List Token) → (tokens_of text ≡ Some ts) ↔ IsSpelled text ts
