-- The grammar of descriptions: RFC 4512 1.4, 4.1.1 and 4.1.2.
use Rattle.std.specs.Prelude.{ℕ, List, [], ◌∷◌, ◌++◌, All, Bool, true, false, Some, ◌≡◌, ◌↔◌}
use Rattle.schema_text.specs.Tokens.{is_bare}
use Rattle.schema_text.specs.Spelling.{IsSpelled}
use Rattle.schema_text.specs.Arguments.{is_some_piece, argument_of}
use Rattle.schema_text.specs.Keywords.{shape_of}
use Rattle.schema_text.specs.Descriptions.{FieldModel, DescriptionModel, keyword_at, is_flag, are_in_order, numericoid_of, description_of}
use Rattle.schema_text.specs.declared.token.Token.{Token}
use Rattle.schema_text.specs.declared.keyword.Section.{Section}
use Rattle.schema_text.specs.declared.keyword.Keyword.{Keyword}

-- tokens are pieces with one SPACE or more between two of them, and SPACEs at will at both ends; no piece is empty or
-- has a SPACE outside quotes (RFC 4512 1.4, SP and WSP)
pub data IsSpaced (b : Bool) : List Token → List (List Token) → Type 0 where
  nothing : IsSpaced b [] []
  a_space : {ts : List Token} {ps : List (List Token)} (t : Token) → is_bare b 32 t ≡ true → IsSpaced b ts ps →
      IsSpaced b (t ∷ ts) ps
  last_piece : (p : List Token) → is_some_piece p ≡ true → All (λ t. is_bare b 32 t ≡ false) p → IsSpaced b p (p ∷ [])
  a_piece : {ts : List Token} {ps : List (List Token)} (p : List Token) (t : Token) → is_some_piece p ≡ true →
      All (λ u. is_bare b 32 u ≡ false) p → is_bare b 32 t ≡ true → IsSpaced b ts ps → IsSpaced b (p ++ t ∷ ts) (p ∷ ps)

-- pieces are fields: a keyword that nothing stands behind, or a keyword and its argument (RFC 4512 4.1.1, 4.1.2)
pub data AreFields (s : Section) : List (List Token) → List FieldModel → Type 0 where
  no_field : AreFields s [] []
  a_flag : {ps : List (List Token)} {fs : List FieldModel} (p : List Token) (k : Keyword) → keyword_at s p ≡ Some k →
      is_flag (shape_of s k) ≡ true → AreFields s ps fs → AreFields s (p ∷ ps) (record { keyword = k; texts = [] } ∷ fs)
  a_field : {ps : List (List Token)} {fs : List FieldModel} (p q : List Token) (k : Keyword) (xs : List (List ℕ)) →
      keyword_at s p ≡ Some k → is_flag (shape_of s k) ≡ false → argument_of (shape_of s k) q ≡ Some xs →
      AreFields s ps fs → AreFields s (p ∷ q ∷ ps) (record { keyword = k; texts = xs } ∷ fs)

-- Octets are a description: between parentheses a numericoid and fields, with SPACEs between them, each field in its
-- place (RFC 4512 4.1.1, ObjectClassDescription; 4.1.2, AttributeTypeDescription).
pub record IsDescription (s : Section) (octets : List ℕ) (d : DescriptionModel) : Type 0 where
  pub body : List ℕ
  pub is_enclosed : octets ≡ 40 ∷ body ++ 41 ∷ []
  pub tokens : List Token
  pub are_tokens : IsSpelled false false body tokens
  pub first : List Token
  pub rest : List (List Token)
  pub are_spaced : IsSpaced false tokens (first ∷ rest)
  pub is_oid : numericoid_of first ≡ Some d.oid
  pub are_fields : AreFields s rest d.fields
  pub in_order : are_in_order 0 d.fields ≡ true

-- The description of octets is the one that they are by the grammar, and octets without a description are none.
abbrev pub DescriptionsAreOfOctets : Type 0
DescriptionsAreOfOctets = (s : Section) (octets : List ℕ) (d : DescriptionModel) →
    (description_of d.line s octets ≡ Some d) ↔ IsDescription s octets d
