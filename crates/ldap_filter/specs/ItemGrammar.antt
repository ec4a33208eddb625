-- The octets that spell an item (RFC 4511 4.5.1: Filter).
use Rattle.std.specs.Prelude.{◌≡◌, ◌≢◌, ℕ, List, [], ◌∷◌, ◌++◌, Option, Some, None}
use Rattle.std.specs.Str.{IsUtf8}
use Rattle.ldap_ber.specs.Element.{element_bytes}
use Rattle.ldap_ber.specs.Fields.{HasField, HasText, HasPart, HasTextOrNone, HasOctetsOrNone, HasFlagOrFalse, BeginsOtherwise, Seq}
use Rattle.ldap_ber.specs.Rows.{row_bytes}
use Rattle.ldap_ber.specs.Written.{optional_bytes, flag_or_false_bytes, IsTextOrNone}
use Rattle.ldap_filter.specs.Item.{Comparison, equal, at_least, at_most, approximate, SubstringsValue, ExtensibleValue, Item, comparison, substrings, presence, extensible}

-- the first octet of each comparison (RFC 4511 4.5.1)
abbrev pub comparison_octet : Comparison → ℕ
comparison_octet equal = 163
comparison_octet at_least = 165
comparison_octet at_most = 166
comparison_octet approximate = 168

-- The first octet: the context tags 3 to 6, 8 and 9 constructed, and 7 primitive.
abbrev pub item_octet : Item → ℕ
item_octet (comparison k d a) = comparison_octet k
item_octet (substrings s) = 164
item_octet (presence d) = 135
item_octet (extensible e) = 169

-- AttributeValueAssertion (RFC 4511 4.1.6): a description and an assertion.
abbrev pub IsAssertion : List ℕ → List ℕ → List ℕ → Type 0
IsAssertion d a content = Seq (HasText content 4 d) (λ octets. HasField octets 4 a [])

-- any [1], one after the other, as many as there are
abbrev pub AreAnyParts : List (List ℕ) → List ℕ → List ℕ → Type 0
AreAnyParts [] octets rest = (octets ≡ rest) × BeginsOtherwise octets 129
AreAnyParts (v ∷ vs) octets rest = Seq (HasField octets 129 v) (λ octets. AreAnyParts vs octets rest)

-- substrings SEQUENCE SIZE (1..MAX) OF CHOICE { initial [0], any [1], final [2] }: initial at most once and first,
-- final at most once and last, and some part at least (RFC 4511 4.5.1.7.2)
abbrev pub AreParts : SubstringsValue → List ℕ → Type 0
AreParts s parts = (parts ≢ []) × Seq (HasOctetsOrNone parts 128 s.initial) (λ octets. Seq (AreAnyParts s.any octets)
    (λ octets. HasOctetsOrNone octets 130 s.last []))

-- SubstringFilter (RFC 4511 4.5.1): a description, and the parts.
abbrev pub IsSubstrings : SubstringsValue → List ℕ → Type 0
IsSubstrings s content = Seq (HasText content 4 s.description) (λ octets. HasPart (AreParts s) octets 48 [])

-- MatchingRuleAssertion (RFC 4511 4.5.1): matchingRule [1] OPTIONAL, type [2] OPTIONAL, matchValue [3], dnAttributes
-- [4] DEFAULT FALSE.
abbrev pub IsExtensible : ExtensibleValue → List ℕ → Type 0
IsExtensible e content =
    Seq (HasTextOrNone content 129 e.matching_rule) (λ octets. Seq (HasTextOrNone octets 130 e.description)
    (λ octets. Seq (HasField octets 131 e.match_value) (λ octets. HasFlagOrFalse octets 132 e.dn_attributes [])))

-- the content of an item's element
abbrev pub IsItem : Item → List ℕ → Type 0
IsItem (comparison k d a) content = IsAssertion d a content
IsItem (substrings s) content = IsSubstrings s content
IsItem (presence d) content = (content ≡ d) × IsUtf8 d
IsItem (extensible e) content = IsExtensible e content

-- ---- what is written

-- the content of an AttributeValueAssertion
abbrev pub assertion_content : List ℕ → List ℕ → List ℕ
assertion_content d a = element_bytes 4 d ++ element_bytes 4 a

-- the content of a substring's parts
abbrev pub parts_content : SubstringsValue → List ℕ
parts_content s = optional_bytes 128 s.initial ++ row_bytes (element_bytes 129) s.any ++ optional_bytes 130 s.last

-- the content of a SubstringFilter
abbrev pub substrings_content : SubstringsValue → List ℕ
substrings_content s = element_bytes 4 s.description ++ element_bytes 48 (parts_content s)

-- the content of a MatchingRuleAssertion
abbrev pub extensible_content : ExtensibleValue → List ℕ
extensible_content e = optional_bytes 129 e.matching_rule ++ optional_bytes 130 e.description ++ element_bytes 131
    e.match_value ++ flag_or_false_bytes 132 e.dn_attributes

-- the content of the element that is written for an item
abbrev pub item_content : Item → List ℕ
item_content (comparison k d a) = assertion_content d a
item_content (substrings s) = substrings_content s
item_content (presence d) = d
item_content (extensible e) = extensible_content e

-- a substrings item has a part
abbrev pub HasSomePart : Option (List ℕ) → List (List ℕ) → Option (List ℕ) → Type 0
HasSomePart None [] None = ⊥
HasSomePart None [] (Some v) = Unit {0}
HasSomePart None (v ∷ vs) last = Unit {0}
HasSomePart (Some v) any last = Unit {0}

-- each description is text, and a substrings item has a part
abbrev pub IsSpellable : Item → Type 0
IsSpellable (comparison k d a) = IsUtf8 d
IsSpellable (substrings s) = IsUtf8 s.description × HasSomePart s.initial s.any s.last
IsSpellable (presence d) = IsUtf8 d
IsSpellable (extensible e) = IsTextOrNone e.matching_rule × IsTextOrNone e.description
