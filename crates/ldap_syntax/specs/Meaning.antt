-- What a value means under a rule, and when meanings are equal and in order: RFC 4517 3.3 and 4.2.
use Rattle.std.specs.Prelude.{ℕ, ℤ, ◌<ℤ◌, List, [], ◌∷◌, Bool, true, false, cond, ◌&&◌, ◌||◌, nat_eq, nat_lt, Option, None, Some, is_some, chars, ◌≡◌}
use Rattle.std.specs.Str.{bytes_eq, is_utf8}
use Rattle.ldap_syntax.specs.Text.{prepared}
use Rattle.ldap_words.specs.Numbers.{is_integer, number_of}
use Rattle.ldap_words.specs.Identifiers.{is_numericoid}
use Rattle.ldap_syntax.specs.Times.{is_time}
use Rattle.ldap_syntax.specs.Syntaxes.{is_in_syntax, is_part_of, is_boolean, true_octets}
use Rattle.ldap_words.specs.Families.{has_substrings, is_used_on}
use Rattle.ldap_syntax.specs.declared.preparing.Part.{Part}
use Rattle.ldap_syntax.specs.declared.preparing.Part.TheVariants.{Whole}
use Rattle.ldap_words.specs.declared.rule.Family.{Family}
use Rattle.ldap_words.specs.declared.rule.Family.TheVariants as family
use Rattle.ldap_words.specs.declared.rule.Rule.{Rule}

-- what a value means: a whole number of any size, a prepared text as its characters, a truth value, octets, an object
-- identifier, or a name: its relative names, root first, each its types in rising order with the keys of their values
pub data Meaning : Type 0 where
  number : ℤ → Meaning
  text : List ℕ → Meaning
  truth : Bool → Meaning
  octets : List ℕ → Meaning
  identifier : List ℕ → Meaning
  name : List (List (ℕ × List ℕ)) → Meaning

-- the prepared text that the octets spell; none, where they are no UTF-8
abbrev pub spelled : Family → Part → List ℕ → Option (List ℕ)
spelled f part v = cond (is_utf8 v) (Some (prepared f part (chars v))) None

-- a prepared text as a meaning; none, where the octets are no text
abbrev pub as_text : Option (List ℕ) → Option Meaning
as_text None = None
as_text (Some t) = Some (text t)

-- what a value means in a family (RFC 4517 4.2); a name means nothing where no schema is known
abbrev pub meaning_in : Family → List ℕ → Option Meaning
meaning_in family.Identifier v = cond (is_numericoid v) (Some (identifier v)) None
meaning_in family.Name v = None
meaning_in family.Boolean v = cond (is_boolean v) (Some (truth (bytes_eq v true_octets))) None
meaning_in family.Integer v = cond (is_integer v) (Some (number (number_of v))) None
meaning_in family.Octet v = Some (octets v)
meaning_in family.Time v = cond (is_time v) (Some (text v)) None
meaning_in family.Ignore v = as_text (spelled family.Ignore Whole v)
meaning_in family.Exact v = as_text (spelled family.Exact Whole v)
meaning_in family.Numeric v = as_text (spelled family.Numeric Whole v)
meaning_in family.Telephone v = as_text (spelled family.Telephone Whole v)
meaning_in family.Ia5 v = as_text (spelled family.Ia5 Whole v)
meaning_in family.Ia5Exact v = as_text (spelled family.Ia5Exact Whole v)

-- What a value means under a rule; nothing, where it isn't in the rule's syntax.
abbrev pub meaning : Rule → List ℕ → Option Meaning
meaning r v = cond (is_in_syntax r.syntax v) (meaning_in r.family v) None

-- Under a rule that is used on its syntax, a value means something exactly where it is in the syntax.
abbrev pub ValuesOfTheSyntaxMean : Type 0
ValuesOfTheSyntaxMean = (r : Rule) (v : List ℕ) → is_used_on r.family r.syntax ≡ true → is_some (meaning r v) ≡
    is_in_syntax r.syntax v

-- What a part of a substring assertion means under a rule: its prepared text; nothing, where it is no part of the
-- syntax's values or the rule's family has no substrings rule.
abbrev pub part_meaning : Rule → Part → List ℕ → Option (List ℕ)
part_meaning r part v = cond (has_substrings r.family && is_part_of r.syntax v) (spelled r.family part v) None

-- the order of lists by their first difference: of texts by code points, of keys by octets
abbrev pub is_before : List ℕ → List ℕ → Bool
is_before a [] = false
is_before [] (y ∷ ys) = true
is_before (x ∷ xs) (y ∷ ys) = nat_lt x y || (nat_eq x y && is_before xs ys)

-- The order of meanings, where the rule orders: numbers by size, texts by code points (RFC 4517 4.2.5, 4.2.12, 4.2.17,
-- 4.2.20, 4.2.23).
abbrev pub IsLessMeaning : Meaning → Meaning → Type 0
IsLessMeaning (number a) (number b) = a <ℤ b
IsLessMeaning (text a) (text b) = is_before a b ≡ true
IsLessMeaning a b = ⊥
