-- The keywords of descriptions: RFC 4512 4.1.1 and 4.1.2.
use Rattle.std.specs.Prelude.{ℕ, List, Bool, cond, ◌||◌, ◌&&◌, Option, None, Some, nat_eq, nat_lt, codes}
use Rattle.schema_text.specs.Words.{is_same_word, is_extension}
use Rattle.schema_text.specs.declared.keyword.Section.{Section}
use Rattle.schema_text.specs.declared.keyword.Section.TheVariants.{AttributeTypes, ObjectClasses}
use Rattle.schema_text.specs.declared.keyword.Keyword.{Keyword}
use Rattle.schema_text.specs.declared.keyword.Keyword.TheVariants as keyword
use Rattle.schema_text.specs.declared.keyword.Shape.{Shape}
use Rattle.schema_text.specs.declared.keyword.Shape.TheVariants as shape

-- the keywords that both kinds of description have
abbrev pub common_keyword : List ℕ → Option Keyword
common_keyword w =
    cond (is_same_word (codes "NAME") w) (Some keyword.Name)
    (cond (is_same_word (codes "DESC") w) (Some keyword.Desc)
    (cond (is_same_word (codes "OBSOLETE") w) (Some keyword.Obsolete)
    (cond (is_same_word (codes "SUP") w) (Some keyword.Sup)
    (cond (is_extension w) (Some keyword.Extension) None))))

-- those of attribute types alone; COLLECTIVE and NO-USER-MODIFICATION are not read (RFC 4512 4.1.2)
abbrev pub type_keyword : List ℕ → Option Keyword
type_keyword w =
    cond (is_same_word (codes "EQUALITY") w) (Some keyword.Equality)
    (cond (is_same_word (codes "ORDERING") w) (Some keyword.Ordering)
    (cond (is_same_word (codes "SUBSTR") w) (Some keyword.Substr)
    (cond (is_same_word (codes "SYNTAX") w) (Some keyword.Syntax)
    (cond (is_same_word (codes "SINGLE-VALUE") w) (Some keyword.SingleValue)
    (cond (is_same_word (codes "USAGE") w) (Some keyword.Usage) None)))))

-- those of object classes alone (RFC 4512 4.1.1)
abbrev pub class_keyword : List ℕ → Option Keyword
class_keyword w =
    cond (is_same_word (codes "ABSTRACT") w) (Some keyword.Abstract)
    (cond (is_same_word (codes "STRUCTURAL") w) (Some keyword.Structural)
    (cond (is_same_word (codes "AUXILIARY") w) (Some keyword.Auxiliary)
    (cond (is_same_word (codes "MUST") w) (Some keyword.Must)
    (cond (is_same_word (codes "MAY") w) (Some keyword.May) None))))

-- the keywords that one kind of description has and the other hasn't
abbrev pub own_keyword : Section → List ℕ → Option Keyword
own_keyword AttributeTypes w = type_keyword w
own_keyword ObjectClasses w = class_keyword w

-- a keyword of both kinds of description, or else of this kind alone
abbrev pub or_own : Section → List ℕ → Option Keyword → Option Keyword
or_own s w None = own_keyword s w
or_own s w (Some k) = Some k

-- the keyword that a word is, in any case
abbrev pub keyword_of : Section → List ℕ → Option Keyword
keyword_of s w = or_own s w (common_keyword w)

-- the place of a keyword in the order of the grammar; the kinds of a class share theirs (RFC 4512 4.1.1, 4.1.2)
abbrev pub place_of : Keyword → ℕ
place_of keyword.Name = 1
place_of keyword.Desc = 2
place_of keyword.Obsolete = 3
place_of keyword.Sup = 4
place_of keyword.Equality = 5
place_of keyword.Ordering = 6
place_of keyword.Substr = 7
place_of keyword.Syntax = 8
place_of keyword.SingleValue = 9
place_of keyword.Usage = 10
place_of keyword.Abstract = 11
place_of keyword.Structural = 11
place_of keyword.Auxiliary = 11
place_of keyword.Must = 12
place_of keyword.May = 13
place_of keyword.Extension = 14

-- whether a field may stand behind one of this place: its place is higher, or both are extensions
abbrev pub may_follow : ℕ → Keyword → Bool
may_follow last k = nat_lt last (place_of k) || (nat_eq last 14 && nat_eq (place_of k) 14)

-- SUP names one attribute type, but one object class or several (RFC 4512 4.1.1, 4.1.2)
abbrev pub superior_shape : Section → Shape
superior_shape AttributeTypes = shape.Oid
superior_shape ObjectClasses = shape.Oids

-- the shape of a keyword's argument (RFC 4512 4.1.1, 4.1.2)
abbrev pub shape_of : Section → Keyword → Shape
shape_of s keyword.Name = shape.Names
shape_of s keyword.Desc = shape.Text
shape_of s keyword.Obsolete = shape.Flag
shape_of s keyword.Sup = superior_shape s
shape_of s keyword.Equality = shape.Oid
shape_of s keyword.Ordering = shape.Oid
shape_of s keyword.Substr = shape.Oid
shape_of s keyword.Syntax = shape.BoundedOid
shape_of s keyword.SingleValue = shape.Flag
shape_of s keyword.Usage = shape.Usage
shape_of s keyword.Abstract = shape.Flag
shape_of s keyword.Structural = shape.Flag
shape_of s keyword.Auxiliary = shape.Flag
shape_of s keyword.Must = shape.Oids
shape_of s keyword.May = shape.Oids
shape_of s keyword.Extension = shape.Texts
