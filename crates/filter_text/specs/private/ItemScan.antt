-- What stands between an item's parentheses (RFC 4515 3, item).
use Rattle.std.specs.Prelude.{ℕ, Bool, true, false, cond, ◌&&◌, ◌||◌, Option, None, Some, nat_eq}
use Rattle.std.specs.Option.{option_map, is_some}
use Rattle.std.specs.Char.{to_ascii_lowercase}
use Rattle.ldap_words.specs.Numbers.{is_digit}
use Rattle.filter_text.specs.Descriptions.{is_alpha, is_key_octet}
use Rattle.filter_text.specs.Values.{is_normal, hex_digit}
use Rattle.filter_text.specs.private.Machine.{within}
use Rattle.filter_text.specs.declared.place.OidPlace.{OidPlace}
use Rattle.filter_text.specs.declared.place.OidPlace.TheVariants.{Letters, Zero, Number, Dot, DottedZero, DottedNumber}
use Rattle.filter_text.specs.declared.place.NamePlace.{NamePlace}
use Rattle.filter_text.specs.declared.place.NamePlace.TheVariants.{Oid, Semicolon, Keys}
use Rattle.filter_text.specs.declared.place.ValuePlace.{ValuePlace}
use Rattle.filter_text.specs.declared.place.ValuePlace.TheVariants.{Between, Escape, Half}
use Rattle.filter_text.specs.declared.place.Word.{Word}
use Rattle.filter_text.specs.declared.place.Word.TheVariants.{OnlyD, Dn, Other}
use Rattle.filter_text.specs.declared.place.ItemPlace.{ItemPlace}
use Rattle.filter_text.specs.declared.place.ItemPlace.TheVariants.{Start, Name, Sign, Plain, Part, Star, BareColon, Colon, Rule, DnColon, LastRule, Assign}

-- ---- oid (RFC 4512 1.4)

-- the first octet of an oid (RFC 4512 1.4)
abbrev pub oid_first : ℕ → Option OidPlace
oid_first c = cond (is_alpha c) (Some Letters) (cond (nat_eq c 48) (Some Zero) (cond (is_digit c) (Some Number) None))

-- DOT between numbers (RFC 4512 1.4, numericoid)
abbrev pub dotted : ℕ → Option OidPlace
dotted c = cond (nat_eq c 46) (Some Dot) None

-- a further octet of an oid
abbrev pub oid_step : OidPlace → ℕ → Option OidPlace
oid_step Letters c = cond (is_key_octet c) (Some Letters) None
oid_step Zero c = dotted c
oid_step Number c = cond (is_digit c) (Some Number) (dotted c)
oid_step Dot c = cond (nat_eq c 48) (Some DottedZero) (cond (is_digit c) (Some DottedNumber) None)
oid_step DottedZero c = dotted c
oid_step DottedNumber c = cond (is_digit c) (Some DottedNumber) (dotted c)

-- an oid may end here
abbrev pub oid_ends : OidPlace → Bool
oid_ends Letters = true
oid_ends Zero = false
oid_ends Number = false
oid_ends Dot = false
oid_ends DottedZero = true
oid_ends DottedNumber = true

-- ---- attributedescription (RFC 4512 2.5)

-- the `;` behind an oid
abbrev pub oid_out : OidPlace → ℕ → Option NamePlace
oid_out o c = cond (oid_ends o) (cond (nat_eq c 59) (Some Semicolon) None) None

-- a further octet of a description
abbrev pub name_step : NamePlace → ℕ → Option NamePlace
name_step (Oid o) c = within Oid (oid_out o c) (oid_step o c)
name_step Semicolon c = cond (is_key_octet c) (Some Keys) None
name_step Keys c = cond (is_key_octet c) (Some Keys) (cond (nat_eq c 59) (Some Semicolon) None)

-- a description may end here
abbrev pub name_ends : NamePlace → Bool
name_ends (Oid o) = oid_ends o
name_ends Semicolon = false
name_ends Keys = true

-- ---- valueencoding (RFC 4515 3)

-- HEX (RFC 4512 1.4)
abbrev pub is_hex : ℕ → Bool
is_hex c = is_some (hex_digit c)

-- a further octet of a value
abbrev pub value_step : ValuePlace → ℕ → Option ValuePlace
value_step Between c = cond (nat_eq c 92) (Some Escape) (cond (is_normal c) (Some Between) None)
value_step Escape c = cond (is_hex c) (Some Half) None
value_step Half c = cond (is_hex c) (Some Between) None

-- a value may end here
abbrev pub value_ends : ValuePlace → Bool
value_ends Between = true
value_ends Escape = false
value_ends Half = false

-- ---- a word behind a colon, which may be `dn` in any case

-- the first octet of a word
abbrev pub word_first : ℕ → Word
word_first c = cond (nat_eq (to_ascii_lowercase c) 100) OnlyD Other

-- a further octet of a word
abbrev pub word_step : Word → ℕ → Word
word_step OnlyD c = cond (nat_eq (to_ascii_lowercase c) 110) Dn Other
word_step Dn c = Other
word_step Other c = Other

-- ---- item (RFC 4515 3)

-- `=`, and a value without asterisks behind it
abbrev pub assign : ℕ → Option ItemPlace
assign c = cond (nat_eq c 61) (Some (Plain Between)) None

-- `>`, `<` or `~`
abbrev pub is_sign : ℕ → Bool
is_sign c = nat_eq c 62 || nat_eq c 60 || nat_eq c 126

-- behind a description
abbrev pub name_out : NamePlace → ℕ → Option ItemPlace
name_out n c =
    cond (name_ends n)
    (cond (nat_eq c 61) (Some (Part Between)) (cond (nat_eq c 58) (Some Colon) (cond (is_sign c) (Some Sign) None)))
    None

-- the first octet of the word behind the first colon
abbrev pub rule_first : ℕ → Option ItemPlace
rule_first c = option_map (λ o. Rule (word_first c) o) (oid_first c)

-- behind a colon, a word and a colon: behind `dn` another rule may stand
abbrev pub behind_word : Word → ItemPlace
behind_word OnlyD = Assign
behind_word Dn = DnColon
behind_word Other = Assign

-- the colon behind a word
abbrev pub rule_out : Word → OidPlace → ℕ → Option ItemPlace
rule_out w o c = cond (oid_ends o) (cond (nat_eq c 58) (Some (behind_word w)) None) None

-- the colon behind the rule that stands behind `:dn:`
abbrev pub last_out : OidPlace → ℕ → Option ItemPlace
last_out o c = cond (oid_ends o) (cond (nat_eq c 58) (Some Assign) None) None

-- an octet of a value that may have asterisks: one behind each part
abbrev pub part_step : ValuePlace → ℕ → Option ItemPlace
part_step v c = cond (value_ends v && nat_eq c 42) (Some Star) (option_map Part (value_step v c))

-- a further octet of an item
abbrev pub item_step : ItemPlace → ℕ → Option ItemPlace
item_step Start c = cond (nat_eq c 58) (Some BareColon) (option_map (λ o. Name (Oid o)) (oid_first c))
item_step (Name n) c = within Name (name_out n c) (name_step n c)
item_step Sign c = assign c
item_step (Plain v) c = option_map Plain (value_step v c)
item_step (Part v) c = part_step v c
item_step Star c = option_map Part (value_step Between c)
item_step BareColon c = rule_first c
item_step Colon c = cond (nat_eq c 61) (Some (Plain Between)) (rule_first c)
item_step (Rule w o) c = within (Rule (word_step w c)) (rule_out w o c) (oid_step o c)
item_step DnColon c = cond (nat_eq c 61) (Some (Plain Between)) (option_map LastRule (oid_first c))
item_step (LastRule o) c = within LastRule (last_out o c) (oid_step o c)
item_step Assign c = assign c

-- an item may end here
abbrev pub item_ends : ItemPlace → Bool
item_ends Start = false
item_ends (Name n) = false
item_ends Sign = false
item_ends (Plain v) = value_ends v
item_ends (Part v) = value_ends v
item_ends Star = true
item_ends BareColon = false
item_ends Colon = false
item_ends (Rule w o) = false
item_ends DnColon = false
item_ends (LastRule o) = false
item_ends Assign = false
