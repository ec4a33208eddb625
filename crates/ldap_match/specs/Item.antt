-- An item on one attribute: RFC 4511 4.5.1.7.
use Rattle.std.specs.Prelude.{ℕ, List, [], ◌∷◌, Bool, true, false, not, cond, ◌&&◌, ◌||◌, nat_eq, Option, None, Some, is_some, slice_get}
use Rattle.std.specs.Int.Signed.{lt_z}
use Rattle.std.specs.Cmp.Lexicographic.{pointwise}
use Rattle.std.specs.List.{list_any}
use Rattle.std.specs.Option.{option_and_then}
use Rattle.std.specs.Str.{bytes_eq}
use Rattle.std.specs.Ordering.{int_eq}
use Rattle.ldap_dn.specs.ldap_syntax.Syntaxes as syntax
use Rattle.ldap_dn.specs.ldap_words.Families.{is_ordering, has_substrings}
use Rattle.ldap_dn.specs.ldap_syntax.Meaning.{Meaning, number, text, truth, octets, identifier, name, is_before, part_meaning}
use Rattle.ldap_dn.specs.ldap_syntax.declared.preparing.Part.TheVariants.{Initial, Any, Final}
use Rattle.ldap_dn.specs.ldap_words.declared.rule.Family.{Family}
use Rattle.ldap_dn.specs.ldap_words.declared.rule.Rule.{Rule}
use Rattle.ldap_dn.specs.ldap_words.declared.rule.Syntax.{Syntax}
use Rattle.ldap_dn.specs.ldap_words.declared.rule.Syntax.TheVariants as syntax_of
use Rattle.ldap_dn.specs.ldap_schema.Schema.{SchemaModel, TypeModel}
use Rattle.ldap_dn.specs.Meaning.{dotted}
use Rattle.ldap_dn.specs.ldap_schema.Rules.{equality_of}
use Rattle.ldap_match.specs.Meaning.{name_of, meaning}
use Rattle.ldap_match.specs.Parts.{PartsModel, has_parts}
use Rattle.ldap_match.specs.Truth.{truth_of}
use Rattle.ldap_match.specs.declared.truth.Truth.{Truth}
use Rattle.ldap_match.specs.declared.truth.Truth.TheVariants.{True, Undefined}

-- What an item asks of an attribute: that it is there, that a value is equal, not less, or less or equal, or that a
-- value has parts (RFC 4511 4.5.1.7.1 to 4.5.1.7.5).
pub data Item : Type 0 where
  present : Item
  equal : List ℕ → Item
  at_least : List ℕ → Item
  at_most : List ℕ → Item
  substrings : PartsModel → Item

-- whether both are TRUE or both are FALSE (RFC 4517 4.2.2)
abbrev pub is_same_truth : Bool → Bool → Bool
is_same_truth true b = b
is_same_truth false b = not b

-- whether two types with keys are one
abbrev pub is_same_pair : ℕ × List ℕ → ℕ × List ℕ → Bool
is_same_pair a b = nat_eq a.0 b.0 && bytes_eq a.1 b.1

-- whether two meanings are equal; names are where they have as many relative names, and the same in turn (RFC 4517
-- 4.2.15)
abbrev pub is_equal_meaning : Meaning → Meaning → Bool
is_equal_meaning (number a) (number b) = int_eq a b
is_equal_meaning (text a) (text b) = bytes_eq a b
is_equal_meaning (truth a) (truth b) = is_same_truth a b
is_equal_meaning (octets a) (octets b) = bytes_eq a b
is_equal_meaning (identifier a) (identifier b) = bytes_eq a b
is_equal_meaning (name a) (name b) = pointwise (pointwise is_same_pair) a b
is_equal_meaning m n = false

-- whether a value means this
abbrev pub is_meant : Meaning → Option Meaning → Bool
is_meant m None = false
is_meant m (Some n) = is_equal_meaning n m

-- whether a meaning stands before another: numbers by size, texts by code points (RFC 4517 4.2.5 and its kin)
abbrev pub is_less_meaning : Meaning → Meaning → Bool
is_less_meaning (number a) (number b) = lt_z a b
is_less_meaning (text a) (text b) = is_before a b
is_less_meaning m n = false

-- whether a value's meaning is not less than this (RFC 4511 4.5.1.7.3)
abbrev pub is_at_least : Meaning → Option Meaning → Bool
is_at_least m None = false
is_at_least m (Some n) = not (is_less_meaning n m)

-- whether a value's meaning is less than this, or equals it (RFC 4511 4.5.1.7.4)
abbrev pub is_at_most : Meaning → Option Meaning → Bool
is_at_most m None = false
is_at_most m (Some n) = is_less_meaning n m || is_equal_meaning n m

-- whether a value's meaning has the prepared parts (RFC 4511 4.5.1.7.2)
abbrev pub has_prepared : PartsModel → Option Meaning → Bool
has_prepared p (Some (text t)) = has_parts p t
has_prepared p m = false

-- ---- the rules of a type

-- a rule whose family is so
abbrev pub of_family : (Family → Bool) → Option Rule → Option Rule
of_family offers None = None
of_family offers (Some r) = cond (offers r.family) (Some r) None

-- the second rule, where there is the first
abbrev pub beside : Option Rule → Option Rule → Option Rule
beside None r = None
beside (Some o) r = r

-- The ORDERING rule in effect for a type: its EQUALITY rule, where it has an ORDERING rule and values of the family
-- have an order. The rules of one type are of one family, so values mean under both the same.
abbrev pub ordering_of : SchemaModel → ℕ → Option Rule
ordering_of s t = option_and_then (λ d. beside d.ordering (of_family is_ordering d.equality)) (slice_get s.types t)

-- the SUBSTR rule in effect for a type: its EQUALITY rule, where it has a SUBSTR rule and the family has one of
-- substrings
abbrev pub substrings_of : SchemaModel → ℕ → Option Rule
substrings_of s t = option_and_then (λ d. beside d.substrings (of_family has_substrings d.equality))
    (slice_get s.types t)

-- ---- the parts of an assertion

-- a part that is there and prepared; nothing, where it can't be prepared
abbrev pub some_of : Option (List ℕ) → Option (Option (List ℕ))
some_of None = None
some_of (Some x) = Some (Some x)

-- a part that may be left out, made by f; nothing, where f makes nothing of the part
abbrev pub end_by : (List ℕ → Option (List ℕ)) → Option (List ℕ) → Option (Option (List ℕ))
end_by f None = Some None
end_by f (Some v) = some_of (f v)

-- one more part at the front; nothing, where it or one behind it can't be prepared
abbrev pub put_before : Option (List ℕ) → Option (List (List ℕ)) → Option (List (List ℕ))
put_before (Some x) (Some xs) = Some (x ∷ xs)
put_before o os = None

-- each of the parts, made by f; nothing, where f makes nothing of one
abbrev pub each_by : (List ℕ → Option (List ℕ)) → List (List ℕ) → Option (List (List ℕ))
each_by f [] = Some []
each_by f (v ∷ vs) = put_before (f v) (each_by f vs)

-- the initial, any and final parts together; nothing, where one of them can't be prepared
abbrev pub three_parts : Option (Option (List ℕ)) → Option (List (List ℕ)) → Option (Option (List ℕ)) →
    Option PartsModel
three_parts (Some i) (Some a) (Some l) = Some (record { initial = i; any = a; last = l })
three_parts i a l = None

-- The prepared parts under a rule; nothing, where one is no part of a value of the rule's syntax (RFC 4517 3.3.30).
abbrev pub prepared_parts : Rule → PartsModel → Option PartsModel
prepared_parts r p = three_parts (end_by (part_meaning r Initial) p.initial) (each_by (part_meaning r Any) p.any)
    (end_by (part_meaning r Final) p.last)

-- ---- an item on an attribute

-- True if a value passes what the assertion asks, Undefined if the assertion means nothing, else False
abbrev pub answered : {A : Type 0} → (A → Option Meaning → Bool) → SchemaModel → Rule → Option A → List (List ℕ) → Truth
answered asks s r None values = Undefined
answered asks s r (Some m) values = truth_of (list_any (λ v. asks m (meaning s r v)) values)

-- the same by the rule of a type; Undefined, where the type lacks it
abbrev pub by_rule : {A : Type 0} → (A → Option Meaning → Bool) → (Rule → Option A) → SchemaModel → Option Rule →
    List (List ℕ) → Truth
by_rule asks asserted s None values = Undefined
by_rule asks asserted s (Some r) values = answered asks s r (asserted r) values

-- an equality item by the rule of a type
abbrev pub equality_by : SchemaModel → Option Rule → List ℕ → List (List ℕ) → Truth
equality_by s o a values = by_rule is_meant (λ r. meaning s r a) s o values

-- An item on the values of one attribute, by the rules of its own type (RFC 4511 4.5.1.7).
abbrev pub item_on_attribute : SchemaModel → Item → ℕ → List (List ℕ) → Truth
item_on_attribute s present t values = True
item_on_attribute s (equal a) t values = equality_by s (equality_of s t) a values
item_on_attribute s (at_least a) t values = by_rule is_at_least (λ r. meaning s r a) s (ordering_of s t) values
item_on_attribute s (at_most a) t values = by_rule is_at_most (λ r. meaning s r a) s (ordering_of s t) values
item_on_attribute s (substrings p) t values = by_rule has_prepared (λ r. prepared_parts r p) s (substrings_of s t)
    values

-- whether an assertion value means something under a rule, where there is one
abbrev pub is_valid_by : SchemaModel → Option Rule → List ℕ → Bool
is_valid_by s None v = false
is_valid_by s (Some r) v = is_some (meaning s r v)

-- whether the parts of a substring assertion can be prepared under a rule, where there is one
abbrev pub are_valid_by : Option Rule → PartsModel → Bool
are_valid_by None p = false
are_valid_by (Some r) p = is_some (prepared_parts r p)

-- the values of a syntax, names too, and where a name may stand for an object identifier (RFC 4517 3.3.9, 3.3.26)
abbrev pub is_in_syntax : SchemaModel → Syntax → List ℕ → Bool
is_in_syntax s syntax_of.DistinguishedName v = is_some (name_of s v)
is_in_syntax s syntax_of.ObjectIdentifier v = is_some (dotted s v)
is_in_syntax s x v = syntax.is_in_syntax x v

-- whether a value means something under a rule; where there is none, whether it is in the syntax
abbrev pub is_of_rule : SchemaModel → Syntax → Option Rule → List ℕ → Bool
is_of_rule s x None v = is_in_syntax s x v
is_of_rule s x (Some r) v = is_some (meaning s r v)

-- whether a value is in the syntax of a type, where there is one
abbrev pub is_of_type : SchemaModel → Option TypeModel → List ℕ → Bool
is_of_type s None v = false
is_of_type s (Some t) v = is_of_rule s t.syntax t.equality v

-- Whether a value is in a type's syntax: it means something under the EQUALITY rule, where the type has one.
abbrev pub is_of_syntax : SchemaModel → ℕ → List ℕ → Bool
is_of_syntax s t v = is_of_type s (slice_get s.types t) v

-- whether the type has the item's rule, and the assertion is in its syntax; presence needs neither
abbrev pub is_answerable : SchemaModel → Item → ℕ → Bool
is_answerable s present t = true
is_answerable s (equal a) t = is_valid_by s (equality_of s t) a
is_answerable s (at_least a) t = is_valid_by s (ordering_of s t) a
is_answerable s (at_most a) t = is_valid_by s (ordering_of s t) a
is_answerable s (substrings p) t = are_valid_by (substrings_of s t) p
