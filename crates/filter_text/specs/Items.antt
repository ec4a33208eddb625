-- Items (RFC 4515 3, item).
use Rattle.std.specs.Prelude.{◌≡◌, ◌≢◌, ℕ, List, [], ◌∷◌, ◌++◌, Bool, true, false, not, ◌&&◌, ◌||◌, Option, Some, None}
use Rattle.std.specs.List.{list_all}
use Rattle.ldap_filter.specs.Item.{Comparison, equal, at_least, at_most, approximate, SubstringsValue, ExtensibleValue, Item, comparison, substrings, presence, extensible}
use Rattle.filter_text.specs.Descriptions.{is_description, is_oid, is_dn}
use Rattle.filter_text.specs.Values.{IsValue, are_octets, printed_value}
pub use Rattle.ldap_words.specs.Words.{part_or_nothing}

-- filtertype: `=`, `>=`, `<=` and `~=`
abbrev pub operator : Comparison → List ℕ
operator equal = 61 ∷ []
operator at_least = 62 ∷ 61 ∷ []
operator at_most = 60 ∷ 61 ∷ []
operator approximate = 126 ∷ 61 ∷ []

-- simple: a description, a filtertype and a value
pub record IsSimple (k : Comparison) (d a text : List ℕ) : Type 0 where
  pub value : List ℕ
  pub parts : text ≡ d ++ (operator k ++ value)
  pub is_description : is_description d ≡ true
  pub is_value : IsValue a value

-- present: a description, and `=*`
pub record IsPresence (d text : List ℕ) : Type 0 where
  pub parts : text ≡ d ++ 61 ∷ 42 ∷ []
  pub is_description : is_description d ≡ true

-- a part of a substrings item, which is not empty
pub record IsPart (v text : List ℕ) : Type 0 where
  pub is_value : IsValue v text
  pub is_some : v ≢ []

-- a part at an end, or none
abbrev pub IsPartOrNone : Option (List ℕ) → List ℕ → Type 0
IsPartOrNone None text = text ≡ []
IsPartOrNone (Some v) text = IsPart v text

-- a text before an asterisk, and the text behind it
pub record Starred (Before Behind : List ℕ → Type 0) (text : List ℕ) : Type 0 where
  pub before : List ℕ
  pub behind : List ℕ
  pub parts : text ≡ before ++ 42 ∷ behind
  pub is_before : Before before
  pub is_behind : Behind behind

-- parts with an asterisk behind each, and the part at the end
abbrev pub AreParts : List (List ℕ) → Option (List ℕ) → List ℕ → Type 0
AreParts [] last text = IsPartOrNone last text
AreParts (v ∷ vs) last text = Starred (IsPart v) (AreParts vs last) text

-- a substrings item has a part
abbrev pub has_part : Option (List ℕ) → List (List ℕ) → Option (List ℕ) → Bool
has_part None [] None = false
has_part None [] (Some v) = true
has_part None (v ∷ vs) last = true
has_part (Some v) any last = true

-- substring: a description, `=`, and parts with asterisks between and around them, some part at least
pub record IsSubstrings (s : SubstringsValue) (text : List ℕ) : Type 0 where
  pub value : List ℕ
  pub parts : text ≡ s.description ++ 61 ∷ value
  pub is_description : is_description s.description ≡ true
  pub are_parts : Starred (IsPartOrNone s.initial) (AreParts s.any s.last) value
  pub some : has_part s.initial s.any s.last ≡ true

-- matchingrule: a colon and a rule, or nothing
abbrev pub rule_text : Option (List ℕ) → List ℕ
rule_text None = []
rule_text (Some r) = 58 ∷ r

-- dnattrs: a colon and `dn` in any case, where the flag is set
abbrev pub IsFlag : Bool → List ℕ → Type 0
IsFlag true text = (w : List ℕ) × (text ≡ 58 ∷ w) × (is_dn w ≡ true)
IsFlag false text = text ≡ []

-- which descriptions, flags and rules stand together: a description or a rule, each in its form, and no rule `dn` right
-- behind a description, where it reads as dnattrs
abbrev pub is_applicable : Option (List ℕ) → Bool → Option (List ℕ) → Bool
is_applicable None flag None = false
is_applicable None flag (Some r) = is_oid r
is_applicable (Some d) flag None = is_description d
is_applicable (Some d) flag (Some r) = is_description d && is_oid r && (flag || not (is_dn r))

-- extensible: a description, dnattrs and a rule, what of them there is, then `:=` and a value
pub record IsExtensible (e : ExtensibleValue) (text : List ℕ) : Type 0 where
  pub flag : List ℕ
  pub value : List ℕ
  pub parts : text ≡ part_or_nothing e.description ++ (flag ++ (rule_text e.matching_rule ++ 58 ∷ 61 ∷ value))
  pub is_flag : IsFlag e.dn_attributes flag
  pub applies : is_applicable e.description e.dn_attributes e.matching_rule ≡ true
  pub is_value : IsValue e.match_value value

-- The text between an item's parentheses (RFC 4515 3, item).
abbrev pub IsItemText : Item → List ℕ → Type 0
IsItemText (comparison k d a) text = IsSimple k d a text
IsItemText (substrings s) text = IsSubstrings s text
IsItemText (presence d) text = IsPresence d text
IsItemText (extensible e) text = IsExtensible e text

-- ---- what is printed

-- a part of a substring, or nothing where there is none
abbrev pub printed_part : Option (List ℕ) → List ℕ
printed_part None = []
printed_part (Some v) = printed_value v

-- parts with an asterisk behind each
abbrev pub printed_parts : List (List ℕ) → List ℕ
printed_parts [] = []
printed_parts (v ∷ vs) = printed_value v ++ 42 ∷ printed_parts vs

-- `:dn` where the flag is set
abbrev pub printed_flag : Bool → List ℕ
printed_flag true = 58 ∷ 100 ∷ 110 ∷ []
printed_flag false = []

-- the text that is printed between an item's parentheses
abbrev pub printed_item : Item → List ℕ
printed_item (comparison k d a) = d ++ (operator k ++ printed_value a)
printed_item (substrings s) =
    s.description ++ 61 ∷ (printed_part s.initial ++ 42 ∷ (printed_parts s.any ++ printed_part s.last))
printed_item (presence d) = d ++ 61 ∷ 42 ∷ []
printed_item (extensible e) = part_or_nothing e.description ++ (printed_flag
    e.dn_attributes ++ (rule_text e.matching_rule ++ 58 ∷ 61 ∷ printed_value e.match_value))

-- ---- which items have a text

-- octets, one at least
abbrev pub is_part : List ℕ → Bool
is_part [] = false
is_part (c ∷ cs) = are_octets (c ∷ cs)

-- whether it is a part, where there is one
abbrev pub is_part_or_none : Option (List ℕ) → Bool
is_part_or_none None = true
is_part_or_none (Some v) = is_part v

-- whether an item has a text
abbrev pub has_item_text : Item → Bool
has_item_text (comparison k d a) = is_description d && are_octets a
has_item_text (substrings s) = is_description s.description
    && (is_part_or_none s.initial
    && (list_all is_part s.any && (is_part_or_none s.last && has_part s.initial s.any s.last)))
has_item_text (presence d) = is_description d
has_item_text (extensible e) = is_applicable e.description e.dn_attributes e.matching_rule && are_octets e.match_value
