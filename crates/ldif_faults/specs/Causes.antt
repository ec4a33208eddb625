-- What is wrong with a line of LDIF (RFC 2849): a text, the line's number and the cause come in, a sentence goes out.
use Rattle.std.specs.Prelude.{◌++◌, ◌||◌, ℕ, ◌+◌, List, [], ◌∷◌, Bool, not, nat_eq, nat_lt, codes, decimal, drop, slice_get, Option, None, Some}
use Rattle.std.specs.List.{filter, last_or, position, prefix_len}
use Rattle.std.specs.Option.{unwrap_or}
use Rattle.std.specs.Char.{is_ascii_alphanumeric}
use Rattle.ldif.specs.Placing.{line_at, record_lines}
use Rattle.ldif.specs.declared.fault.LdifCause.{LdifCause}
use Rattle.ldif.specs.declared.fault.LdifCause.TheVariants as cause
use Rattle.text_faults.specs.Fronts.{front_of}
use Rattle.text_faults.specs.Words.{octet_shown, word_shown}

-- a digit of base64, or what fills its end
abbrev pub is_base64 : ℕ → Bool
is_base64 octet = is_ascii_alphanumeric octet || nat_eq octet 43 || nat_eq octet 47 || nat_eq octet 61

-- base64 by its first octet that is none
abbrev pub bad_base64_by : Option ℕ → List ℕ
bad_base64_by None = codes "no base64: its end is cut, badly filled by '=', or has bits left over"
bad_base64_by (Some octet) = codes "'" ++ octet_shown octet ++ codes "' is no digit of base64"

-- octets less the spaces before them
abbrev pub less_spaces : List ℕ → List ℕ
less_spaces octets = drop (prefix_len (λ octet. nat_eq octet 32) octets) octets

-- what is behind the two colons of a line
abbrev pub encoded_at : List ℕ → Option ℕ → List ℕ
encoded_at line None = []
encoded_at line (Some colon) = less_spaces (drop (colon + 2) line)

-- a line whose base64 spells no octets
abbrev pub bad_base64 : List ℕ → List ℕ
bad_base64 line =
    bad_base64_by (slice_get (filter (λ octet. not (is_base64 octet))
    (encoded_at line (position (λ octet. nat_eq octet 58) line))) 0)

-- a line without a colon
abbrev pub no_colon : List ℕ → List ℕ
no_colon line = codes "expected 'type: value', found '" ++ word_shown line ++ codes "'"

-- a line whose front is no attribute description
abbrev pub no_description : List ℕ → List ℕ
no_description line = codes "'" ++ word_shown (front_of line) ++ codes "' is no attribute's name"

-- a value outside records
abbrev pub no_record : List ℕ → List ℕ
no_record line = codes "expected 'dn:', not '" ++ word_shown (front_of line) ++ codes
    ":': a record begins with its name"

-- the first line of a record; 0, where it has none
abbrev pub first_line : List ℕ → ℕ
first_line [] = 0
first_line (line ∷ lines) = line

-- the lines of the last of these records that begins before a line
abbrev pub open_before : List (List ℕ) → ℕ → Option (List ℕ)
open_before places number = last_or None (filter (λ place. nat_lt (first_line place) number) places)

-- a record's name where a record is open, which begins at this line
abbrev pub second_name : ℕ → List ℕ
second_name line = codes "a second 'dn:' in the record of line " ++ decimal line ++ codes
    ": an empty line ends a record"

-- What a sentence says of the line of this number of a text, which is wrong for this cause.
abbrev pub ldif_sentence : List ℕ → ℕ → LdifCause → List ℕ
ldif_sentence text number cause.ContinuesNothing =
    codes "the line begins with a space and continues nothing: no line, or an empty one, is before it"
ldif_sentence text number cause.NoColon = no_colon (line_at text number)
ldif_sentence text number cause.Change = codes "a change record is not supported, only entries"
ldif_sentence text number cause.ByUrl = codes "a value by URL, behind ':<', is not supported"
ldif_sentence text number cause.BadBase64 = bad_base64 (line_at text number)
ldif_sentence text number cause.NoDescription = no_description (line_at text number)
ldif_sentence text number cause.NameNotUtf8 = codes "the name is not UTF-8"
ldif_sentence text number cause.SecondName =
    second_name (first_line (unwrap_or (open_before (record_lines text) number) []))
ldif_sentence text number cause.NoRecord = no_record (line_at text number)
ldif_sentence text number cause.LateVersion = codes "'version:' comes once, before all records"
ldif_sentence text number cause.BadVersion = codes "expected 'version: 1', the one version"
