-- An item's text, cut into what it says.
use Rattle.std.specs.Prelude.{ℕ, List, [], ◌∷◌, ◌++◌, take, drop, Bool, true, false, not, cond, ◌&&◌, ◌||◌, Option, None, Some, nat_eq}
use Rattle.std.specs.List.{prefix_len, slice_split}
use Rattle.std.specs.Option.{option_map, option_and_then}
use Rattle.ldap_filter.specs.Item.{Comparison, equal, at_least, at_most, approximate, Item, comparison, substrings, presence, extensible}
use Rattle.filter_text.specs.Descriptions.{is_key_octet, is_dn}
use Rattle.filter_text.specs.private.Scanned.{value_of}
pub use Rattle.ldap_words.specs.Octets.{begins_with, is_empty}

-- an octet that a description or a rule may have
abbrev pub is_name_octet : ℕ → Bool
is_name_octet c = is_key_octet c || nat_eq c 46 || nat_eq c 59

-- another octet than this one
abbrev pub is_other : ℕ → ℕ → Bool
is_other k c = not (nat_eq c k)

-- the longest front of octets that pass
abbrev pub front : (ℕ → Bool) → List ℕ → List ℕ
front p text = take (prefix_len p text) text

-- what follows the longest front of octets that pass
abbrev pub behind : (ℕ → Bool) → List ℕ → List ℕ
behind p text = drop (prefix_len p text) text

-- all but the first octet
abbrev pub tail : List ℕ → List ℕ
tail [] = []
tail (c ∷ cs) = cs

-- ---- a description, an operator and a value

-- the comparison that `>`, `<` or `~` begins
abbrev pub sign_of : ℕ → Comparison
sign_of c = cond (nat_eq c 62) at_least (cond (nat_eq c 60) at_most approximate)

-- a description, a sign, and what follows it
abbrev pub compared : List ℕ → ℕ → List ℕ → Option Item
compared d c x = option_map (comparison (sign_of c) d) (value_of (tail x))

-- ---- `=`

-- the part at an end, or none
abbrev pub part_of : List ℕ → Option (Option (List ℕ))
part_of [] = Some None
part_of (c ∷ cs) = option_map Some (value_of (c ∷ cs))

-- the parts with an asterisk behind them, and the part at the end
pub record Parts : Type 0 where
  pub any : List (List ℕ)
  pub last : Option (List ℕ)

-- the parts that texts between asterisks spell, behind those so far
abbrev pub spread : List (List ℕ) → List (List ℕ) → Option Parts
spread any [] = None
spread any (s ∷ []) = option_map (λ l. record { any = any; last = l }) (part_of s)
spread any (s ∷ t ∷ ss) = option_and_then (λ v. spread (any ++ v ∷ []) (t ∷ ss)) (value_of s)

-- the parts behind an asterisk
abbrev pub parts_of : List ℕ → Option Parts
parts_of text = spread [] (slice_split (λ c. nat_eq c 42) text)

-- parts with an initial one, or with none
abbrev pub substrings_of : List ℕ → Option (List ℕ) → Option Parts → Option Item
substrings_of d i o =
    option_map (λ p. substrings (record { description = d; initial = i; any = p.any; last = p.last })) o

-- an asterisk between two texts
abbrev pub starred : List ℕ → List ℕ → List ℕ → Option Item
starred d f b = cond (is_empty f && is_empty b) (Some (presence d))
    (option_and_then (λ i. substrings_of d i (parts_of b)) (part_of f))

-- a text up to its first asterisk, and from there
abbrev pub equal_or_starred : List ℕ → List ℕ → List ℕ → List ℕ → Option Item
equal_or_starred d x f b = cond (is_empty b) (option_map (comparison equal d) (value_of x)) (starred d f (tail b))

-- a description, and what stands behind `=`
abbrev pub equality : List ℕ → List ℕ → Option Item
equality d x = equal_or_starred d x (front (is_other 42) x) (behind (is_other 42) x)

-- ---- a colon

-- a flag, a rule and the text of a value
pub record Applied : Type 0 where
  pub dn : Bool
  pub rule : Option (List ℕ)
  pub value : List ℕ

-- behind a word and a colon, with a description before them or none
abbrev pub worded : Bool → List ℕ → List ℕ → Applied
worded described w z =
    cond (begins_with 61 z)
    (cond (described && is_dn w) (record { dn = true; rule = None; value = tail z })
    (record { dn = false; rule = Some w; value = tail z }))
    (record { dn = true; rule = Some (front is_name_octet z); value = tail (tail (behind is_name_octet z)) })

-- behind the first colon
abbrev pub applied : Bool → List ℕ → Applied
applied described x =
    cond (begins_with 61 x) (record { dn = false; rule = None; value = tail x })
    (worded described (front is_name_octet x) (tail (behind is_name_octet x)))

-- a description, or none
abbrev pub described_by : List ℕ → Option (List ℕ)
described_by [] = None
described_by (c ∷ cs) = Some (c ∷ cs)

-- a description, and what is said behind the colon
abbrev pub extensible_with : List ℕ → Applied → Option Item
extensible_with d a =
    option_map
    (λ v. extensible (record {
      matching_rule = a.rule;
      description = described_by d;
      match_value = v;
      dn_attributes =
          a.dn;
    }))
    (value_of a.value)

-- a description, and what stands behind the colon
abbrev pub extensible_of : List ℕ → List ℕ → Option Item
extensible_of d x = extensible_with d (applied (not (is_empty d)) x)

-- ---- items

-- a description, and what follows it
abbrev pub item_at : List ℕ → List ℕ → Option Item
item_at d [] = None
item_at d (c ∷ x) = cond (nat_eq c 61) (equality d x) (cond (nat_eq c 58) (extensible_of d x) (compared d c x))

-- the item that a text spells, if it spells one
abbrev pub item_of : List ℕ → Option Item
item_of body = item_at (front is_name_octet body) (behind is_name_octet body)
