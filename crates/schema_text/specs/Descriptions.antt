-- Descriptions of attribute types and object classes: RFC 4512 4.1.1 and 4.1.2.
use Rattle.std.specs.Prelude.{ℕ, ◌-◌, List, [], ◌∷◌, ◌++◌, length, take, Bool, true, false, cond, ◌&&◌, Option, None, Some, nat_eq}
use Rattle.schema_text.specs.Words.{is_numericoid, ends_with}
use Rattle.schema_text.specs.Tokens.{tokens_of}
use Rattle.schema_text.specs.Keywords.{keyword_of, place_of, may_follow, shape_of}
use Rattle.schema_text.specs.Arguments.{pieces, word_of, argument_of}
use Rattle.schema_text.specs.declared.token.Token.{Token}
use Rattle.schema_text.specs.declared.keyword.Section.{Section}
use Rattle.schema_text.specs.declared.keyword.Keyword.{Keyword}
use Rattle.schema_text.specs.declared.keyword.Shape.{Shape}
use Rattle.schema_text.specs.declared.keyword.Shape.TheVariants as shape
use Rattle.std.specs.Option.{option_and_then}

-- a field: its keyword, and the texts of its argument
pub record FieldModel : Type 0 where
  pub keyword : Keyword
  pub texts : List (List ℕ)

-- A description: the line that it stands in, its object identifier and its fields in the order written (RFC 4512 4.1).
pub record DescriptionModel : Type 0 where
  pub line : ℕ
  pub oid : List ℕ
  pub fields : List FieldModel

-- the texts of the first field in a place of the grammar's order
abbrev pub texts_at : ℕ → List FieldModel → List (List ℕ)
texts_at n [] = []
texts_at n (f ∷ fs) = cond (nat_eq (place_of f.keyword) n) f.texts (texts_at n fs)

-- whether a field stands in this place
abbrev pub has_field_at : ℕ → List FieldModel → Bool
has_field_at n [] = false
has_field_at n (f ∷ fs) = cond (nat_eq (place_of f.keyword) n) true (has_field_at n fs)

-- the first text; none, where there is none
abbrev pub first_of : List (List ℕ) → Option (List ℕ)
first_of [] = None
first_of (x ∷ xs) = Some x

-- the first text of the field in a place of the grammar's order; none, where there is no such field
abbrev pub first_text_at : ℕ → List FieldModel → Option (List ℕ)
first_text_at n fs = first_of (texts_at n fs)

-- the keyword that a piece is in a description of this kind; none, where it is a quoted text, a list or another word
abbrev pub keyword_at : Section → List Token → Option Keyword
keyword_at s p = option_and_then (keyword_of s) (word_of p)

-- whether a keyword stands alone, without an argument
abbrev pub is_flag : Shape → Bool
is_flag shape.Flag = true
is_flag shape.Names = false
is_flag shape.Text = false
is_flag shape.Texts = false
is_flag shape.Oid = false
is_flag shape.Oids = false
is_flag shape.BoundedOid = false
is_flag shape.Usage = false

-- fields end where no keyword waits for its argument
abbrev pub fields_end : List FieldModel → Option Keyword → Option (List FieldModel)
fields_end fs None = Some fs
fields_end fs (Some k) = None

-- a keyword ends a field where it is a flag, and else waits for its argument; no description, where the piece is no
-- keyword
abbrev pub begun : Section → List FieldModel → Option Keyword → (List FieldModel → Option Keyword →
    Option (List FieldModel)) → Option (List FieldModel)
begun s fs None f = None
begun s fs (Some k) f = cond (is_flag (shape_of s k)) (f (fs ++ record { keyword = k; texts = [] } ∷ []) None)
    (f fs (Some k))

-- the field with its argument behind those so far; no description, where the piece is no such argument
abbrev pub completed : List FieldModel → Option FieldModel → (List FieldModel → Option Keyword →
    Option (List FieldModel)) → Option (List FieldModel)
completed fs None f = None
completed fs (Some g) f = f (fs ++ g ∷ []) None

-- the field of a keyword and its argument
abbrev pub with_argument : Section → Keyword → List Token → Option FieldModel
with_argument s k p = option_and_then (λ xs. Some (record { keyword = k; texts = xs })) (argument_of (shape_of s k) p)

-- a piece is a keyword, or the argument that one waits for
abbrev pub taken : Section → List FieldModel → Option Keyword → List Token → (List FieldModel → Option Keyword →
    Option (List FieldModel)) → Option (List FieldModel)
taken s fs None p f = begun s fs (keyword_at s p) f
taken s fs (Some k) p f = completed fs (with_argument s k p) f

-- the fields so far, and those of the pieces that follow
abbrev pub fields_from : Section → List FieldModel → Option Keyword → List (List Token) → Option (List FieldModel)
fields_from s fs w [] = fields_end fs w
fields_from s fs w (p ∷ ps) = taken s fs w p (λ gs v. fields_from s gs v ps)

-- the fields stand in the order of the grammar, each once and extensions at will, behind one of this place
abbrev pub are_in_order : ℕ → List FieldModel → Bool
are_in_order last [] = true
are_in_order last (f ∷ fs) = may_follow last f.keyword && are_in_order (place_of f.keyword) fs

-- the fields, where they stand in the order of the grammar (RFC 4512 4.1.1, 4.1.2)
abbrev pub in_order : List FieldModel → Option (List FieldModel)
in_order fs = cond (are_in_order 0 fs) (Some fs) None

-- the word, where it is a numericoid (RFC 4512 1.4)
abbrev pub numericoid_if : List ℕ → Option (List ℕ)
numericoid_if w = cond (is_numericoid w) (Some w) None

-- a numericoid outside lists and quoted texts, which begins a description (RFC 4512 4.1)
abbrev pub numericoid_of : List Token → Option (List ℕ)
numericoid_of p = option_and_then numericoid_if (word_of p)

-- the fields of pieces, in the order of the grammar
abbrev pub ordered_fields : Section → List (List Token) → Option (List FieldModel)
ordered_fields s ps = option_and_then in_order (fields_from s [] None ps)

-- a description of pieces: a numericoid and fields
abbrev pub of_pieces : ℕ → Section → List (List Token) → Option DescriptionModel
of_pieces line s [] = None
of_pieces line s (p ∷ ps) =
    option_and_then (λ oid. option_and_then (λ fs. Some (record { line = line; oid = oid; fields = fs }))
    (ordered_fields s ps)) (numericoid_of p)

-- the octets between parentheses
abbrev pub inside : List ℕ → Option (List ℕ)
inside [] = None
inside (c ∷ cs) = cond (nat_eq c 40 && ends_with 41 cs) (Some (take (length cs - 1) cs)) None

-- The description that octets are, in a line of this number; none, where they are none (RFC 4512 4.1.1,
-- ObjectClassDescription; 4.1.2, AttributeTypeDescription).
abbrev pub description_of : ℕ → Section → List ℕ → Option DescriptionModel
description_of line s octets =
    option_and_then (λ body. option_and_then (λ ts. of_pieces line s (pieces false ts)) (tokens_of body))
    (inside octets)
