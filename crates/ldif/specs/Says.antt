-- What one line says.
use Rattle.std.specs.Prelude.{ℕ, ◌+◌, List, [], ◌∷◌, take, drop, position, Bool, false, cond, codes, Option, None, Some, nat_eq}
use Rattle.std.specs.Result.{result_ok}
use Rattle.std.specs.Str.{is_utf8}
use Rattle.base64.specs.Engines.{standard}
use Rattle.base64.specs.GeneralPurpose.{decode_of}
use Rattle.std.specs.Str.{bytes_eq}
use Rattle.ldif.specs.Descriptions.{is_dn, is_type, begins_change}
use Rattle.ldif.specs.Records.{ValueModel}
use Rattle.ldif.specs.declared.fault.LdifCause.{LdifCause}
use Rattle.ldif.specs.declared.fault.LdifCause.TheVariants.{ContinuesNothing, NoColon, Change, ByUrl, BadBase64, NoDescription, NameNotUtf8}

-- what a line says
pub data Says : Type 0 where
  -- an empty line, which ends a record
  blank : Says
  -- a line that begins with `#` (RFC 2849, note 3)
  comment : Says
  -- a record's name (RFC 2849, dn-spec)
  named : List ℕ → Says
  -- a value that stands as it is (RFC 2849, attrval-spec)
  valued : ValueModel → Says
  -- a value in base64 (RFC 2849, attrval-spec)
  encoded : ValueModel → Says
  -- no line of the profile, for this cause
  wrong : LdifCause → Says

-- FILL (RFC 2849): spaces that are skipped
abbrev pub past_spaces : List ℕ → List ℕ
past_spaces [] = []
past_spaces (c ∷ cs) = cond (nat_eq c 32) (past_spaces cs) (c ∷ cs)

-- whether what stands behind a type's colon is in base64: a second colon stands first (RFC 2849, value-spec)
abbrev pub is_encoded : List ℕ → Bool
is_encoded [] = false
is_encoded (c ∷ cs) = nat_eq c 58

-- the octets that stand behind a type's colon: as they are, or as base64 behind a second colon; none by URL (RFC 2849,
-- value-spec)
abbrev pub octets_of : List ℕ → Option (List ℕ)
octets_of [] = Some []
octets_of (c ∷ cs) =
    cond (nat_eq c 58) (result_ok (decode_of standard (past_spaces cs)))
    (cond (nat_eq c 60) None (Some (past_spaces (c ∷ cs))))

-- a name, which is UTF-8
abbrev pub name_says : List ℕ → Says
name_says octets = cond (is_utf8 octets) (named octets) (wrong NameNotUtf8)

-- a value, in base64 or as it stands
abbrev pub form_says : Bool → ValueModel → Says
form_says in_base64 v = cond in_base64 (encoded v) (valued v)

-- why what stands before a colon is no type of a value
abbrev pub no_type : List ℕ → LdifCause
no_type word = cond (begins_change word) Change NoDescription

-- a value of a type
abbrev pub value_says : Bool → List ℕ → List ℕ → Says
value_says in_base64 word octets =
    cond (is_type word) (form_says in_base64 (record { description = word; octets = octets })) (wrong (no_type word))

-- why what stands behind a colon stands for no octets: it isn't base64, or is a URL
abbrev pub no_octets : Bool → LdifCause
no_octets in_base64 = cond in_base64 BadBase64 ByUrl

-- what a pair says, by its octets
abbrev pub pair_says : Bool → List ℕ → Option (List ℕ) → Says
pair_says in_base64 word None = wrong (no_octets in_base64)
pair_says in_base64 word (Some octets) = cond (is_dn word) (name_says octets) (value_says in_base64 word octets)

-- why a line without a colon is wrong: `-` ends a change (RFC 2849, mod-spec)
abbrev pub no_colon : List ℕ → LdifCause
no_colon l = cond (bytes_eq l (codes "-")) Change NoColon

-- a line with its first colon here, or without one
abbrev pub colon_says : List ℕ → Option ℕ → Says
colon_says l None = wrong (no_colon l)
colon_says l (Some i) = pair_says (is_encoded (drop (i + 1) l)) (take i l) (octets_of (drop (i + 1) l))

-- a line that is no comment; one that still begins with a space continues nothing (RFC 2849, note 2)
abbrev pub unlike_comment : List ℕ → Says
unlike_comment [] = blank
unlike_comment (c ∷ cs) =
    cond (nat_eq c 32) (wrong ContinuesNothing) (colon_says (c ∷ cs) (position (nat_eq 58) (c ∷ cs)))

-- What a line says.
abbrev pub line_says : List ℕ → Says
line_says [] = blank
line_says (c ∷ cs) = cond (nat_eq c 35) comment (unlike_comment (c ∷ cs))
