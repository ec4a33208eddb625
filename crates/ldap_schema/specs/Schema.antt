-- A schema: types and classes by number, and what a name stands for. RFC 4512 2.4, 2.5, 4.1. Plain data and questions
-- to it.
use Rattle.std.specs.Prelude.{ℕ, zero, suc, ◌+◌, List, [], ◌∷◌, Bool, true, false, ◌&&◌, ◌||◌, Option, None, Some, ◌≡◌, nat_eq, length, slice_get, option_map}
use Rattle.std.specs.List.{list_any, position_from}
use Rattle.std.specs.Str.{bytes_eq}
use Rattle.ldap_words.specs.declared.rule.Rule.{Rule}
use Rattle.ldap_words.specs.declared.rule.Syntax.{Syntax}
use Rattle.ldap_schema.specs.declared.class.ClassKind.{ClassKind}
pub use Rattle.ldap_words.specs.Words.{is_same_word as is_same_name}

-- An attribute type: its names with the first one first, the number of its superior type, and what is in effect for it,
-- own or inherited (RFC 4512 4.1.2).
pub record TypeModel : Type 0 where
  pub oid : List ℕ
  pub names : List (List ℕ)
  pub superior : Option ℕ
  pub syntax : Syntax
  pub equality : Option Rule
  pub ordering : Option Rule
  pub substrings : Option Rule
  pub is_single_value : Bool

-- An object class: its superclasses by number of class, its required and allowed types by number of type (RFC 4512
-- 4.1.1).
pub record ClassModel : Type 0 where
  pub oid : List ℕ
  pub names : List (List ℕ)
  pub superiors : List ℕ
  pub kind : ClassKind
  pub required : List ℕ
  pub allowed : List ℕ

-- A schema: its attribute types and object classes, each known by its place (RFC 4512 4.1).
pub record SchemaModel : Type 0 where
  pub types : List TypeModel
  pub classes : List ClassModel

-- a name or the object identifier of what has these names (RFC 4512 1.4, oid)
abbrev pub is_called : List ℕ → List ℕ → List (List ℕ) → Bool
is_called name oid names = bytes_eq name oid || list_any (is_same_name name) names

-- the type of a description (RFC 4512 2.5); a description with options stands for none
abbrev pub find : SchemaModel → List ℕ → Option ℕ
find s d = position_from (λ t. is_called d t.oid t.names) 0 s.types

-- the class of a name or an object identifier
abbrev pub class_named : SchemaModel → List ℕ → Option ℕ
class_named s d = position_from (λ c. is_called d c.oid c.names) 0 s.classes

-- a type or a class goes by its first name, and by its object identifier if it has none (RFC 4512 4.1)
abbrev pub first_name_of : List ℕ → List (List ℕ) → List ℕ
first_name_of oid [] = oid
first_name_of oid (name ∷ names) = name

-- the first name of a class that the schema has
abbrev pub class_name : SchemaModel → ℕ → Option (List ℕ)
class_name s c = option_map (λ d. first_name_of d.oid d.names) (slice_get s.classes c)

-- what a type has that the schema has
abbrev pub type_at : SchemaModel → ℕ → Option TypeModel
type_at s t = slice_get s.types t

-- the number of the superior of a type, where there is a type and it has one
abbrev pub superior_in : Option TypeModel → Option ℕ
superior_in None = None
superior_in (Some t) = t.superior

-- the type that a type's SUP names (RFC 4512 4.1.2)
abbrev pub superior_of : List TypeModel → ℕ → Option ℕ
superior_of ts t = superior_in (slice_get ts t)

-- a superior, and then those that it leads to; nothing, where there is no superior
abbrev pub led : Option ℕ → (ℕ → List ℕ) → List ℕ
led None f = []
led (Some u) f = u ∷ f u

-- the types that a type's SUP leads to, nearest first, in so many steps at most
abbrev pub superiors : ℕ → List TypeModel → ℕ → List ℕ
superiors zero ts t = []
superiors (suc k) ts t = led (superior_of ts t) (λ u. superiors k ts u)

-- A type under another: it is the type, or its SUP leads there (RFC 4512 2.5.1).
abbrev pub is_under : SchemaModel → ℕ → ℕ → Bool
is_under s a b = nat_eq a b || list_any (λ u. nat_eq u b) (superiors (length s.types) s.types a)

-- the chain of SUPs from one type to another
pub data IsUnder (s : SchemaModel) : ℕ → ℕ → Type 0 where
  is_itself : {a : ℕ} → IsUnder s a a
  goes_up : {a c : ℕ} (b : ℕ) → superior_of s.types a ≡ Some b → IsUnder s b c → IsUnder s a c

-- what holds of the superior; true, where there is none
abbrev pub if_led : Option ℕ → (ℕ → Bool) → Bool
if_led None f = true
if_led (Some u) f = f u

-- whether a type's SUPs end within so many steps
abbrev pub ends_within : ℕ → List TypeModel → ℕ → Bool
ends_within zero ts t = if_led (superior_of ts t) (λ u. false)
ends_within (suc k) ts t = if_led (superior_of ts t) (λ u. ends_within k ts u)

-- the SUPs of these types, the first of which has this number, end within as many steps as the schema has types
abbrev pub are_loopless : List TypeModel → List TypeModel → ℕ → Bool
are_loopless ts [] t = true
are_loopless ts (x ∷ xs) t = ends_within (length ts) ts t && are_loopless ts xs (t + 1)

-- No SUP leads back to where it began (RFC 4512 4.1.2).
abbrev pub IsLoopless : List TypeModel → Type 0
IsLoopless ts = are_loopless ts ts 0 ≡ true
