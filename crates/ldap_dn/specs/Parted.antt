-- The grammar of separators: RFC 4514 3.
use Rattle.std.specs.Prelude.{ℕ, List, [], ◌∷◌, ◌++◌, false, All, ◌≡◌, ◌↔◌}
use Rattle.std.specs.List.{slice_split}
use Rattle.ldap_dn.specs.Tokens.{is_plain}
use Rattle.ldap_dn.specs.declared.token.Token.{Token}
use Rattle.ldap_dn.specs.declared.token.Token.TheVariants.{Plain}

-- no token is this octet, unescaped
abbrev pub Lacks : ℕ → List Token → Type 0
Lacks c ts = All (λ t. is_plain c t ≡ false) ts

-- tokens are parts with one unescaped separator between two of them, and no part has it (RFC 4514 3, distinguishedName)
pub data IsParted (c : ℕ) : List Token → List (List Token) → Type 0 where
  is_last : (ts : List Token) → Lacks c ts → IsParted c ts (ts ∷ [])
  has_more : {rest : List Token} {parts : List (List Token)} (ts : List Token) → Lacks c ts → IsParted c rest parts →
      IsParted c (ts ++ Plain c ∷ rest) (ts ∷ parts)

-- The parts of tokens are those that a separator parts.
abbrev pub PartsAreParted : Type 0
PartsAreParted = (c : ℕ) (ts : List Token) (parts : List (List Token)) → (slice_split (is_plain c) ts ≡ parts) ↔
    IsParted c ts parts
