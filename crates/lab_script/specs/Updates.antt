-- The update that a text writes.
use Rattle.std.specs.Prelude.{◌≡◌, ℕ, List, [], cond, codes, nat_eq, Option, None, Some, option_map, Result, Ok}
use Rattle.std.specs.List.{slice_split}
use Rattle.std.specs.Str.{bytes_eq, is_utf8}
use Rattle.hex.specs.Hex.{decode_of}
use Rattle.ldif.specs.Records.{ValueModel, RecordModel}
use Rattle.ldif.specs.Adds.{add_of}
use Rattle.ldif.specs.Exports.{IsWhole}
use Rattle.ldif.specs.ldap_msg.Messages.{OperationValue, request, response, MessageValue}
use Rattle.dir_lab.specs.ldap_op.Values.{OpValue, add, delete, noop}
use Rattle.request_checks.specs.Requests.{update_of}
use Rattle.lab_script.specs.Cuts.{Cut, behind_spaces, cut, cut_pair}
use Rattle.lab_script.specs.Each.{all_of}

-- ---- `add DN|type: value|..`

-- a line's type, which is UTF-8, and its value
abbrev pub line_of : Cut → Option ValueModel
line_of k = cond (is_utf8 k.front) (Some (record { description = k.front; octets = k.behind })) None

-- the same of a piece that is cut
abbrev pub line_cut : Option Cut → Option ValueModel
line_cut None = None
line_cut (Some k) = line_of (record { front = k.front; behind = behind_spaces k.behind })

-- `type: value`: the value is all that stands behind the first colon with a space behind it, and behind that and
-- further spaces
abbrev pub line_in : List ℕ → Option ValueModel
line_in piece = line_cut (cut_pair piece)

-- the lines between bars
abbrev pub lines_in : List ℕ → Option (List ValueModel)
lines_in text = all_of line_in (slice_split (nat_eq 124) text)

-- a name, which is UTF-8, and lines
abbrev pub record_with : List ℕ → Option (List ValueModel) → Option RecordModel
record_with name lines = cond (is_utf8 name) (option_map (λ vs. record { name = name; values = vs }) lines) None

-- a name alone, or a name and what stands behind a bar
abbrev pub record_cut : List ℕ → Option Cut → Option RecordModel
record_cut text None = record_with text (Some [])
record_cut text (Some k) = record_with k.front (lines_in k.behind)

-- the name stands before the first bar, the lines behind it
abbrev pub record_in : List ℕ → Option RecordModel
record_in text = record_cut text (cut 124 text)

-- the add of the entry that is written so: lines of one type, in any case, are one attribute at the place of the first
abbrev pub add_in : List ℕ → Option OpValue
add_in text = option_map (λ r. add (add_of r)) (record_in text)

-- ---- `delete DN`

-- the delete of a name, which is UTF-8
abbrev pub delete_in : List ℕ → Option OpValue
delete_in name = cond (is_utf8 name) (Some (delete name)) None

-- ---- `hex MESSAGE`

-- the update that an operation is, if it is one (RFC 4511 4.6 to 4.9, 4.12)
abbrev pub update_by : OperationValue → Option OpValue
update_by (request r) = update_of r
update_by (response r) = None

-- octets are one whole message within the limits, whose operation is the update
pub record IsUpdateIn (octets : List ℕ) (op : OpValue) : Type 0 where
  pub message : MessageValue
  pub whole : IsWhole octets message
  pub asks : update_by message.op ≡ Some op

-- hexadecimal digits, two an octet, spell octets of a message that asks for the update
pub record IsHexText (digits : List ℕ) (op : OpValue) : Type 0 where
  pub octets : List ℕ
  pub spelled : decode_of digits ≡ Ok octets
  pub update : IsUpdateIn octets op

-- ---- updates

-- what a text is by its first word, and what stands behind that and one space
pub data Kind : Type 0 where
  noop_kind : Kind
  add_kind : List ℕ → Kind
  delete_kind : List ℕ → Kind
  hex_kind : List ℕ → Kind
  no_kind : Kind

-- a text of a first word, with what stands behind that
abbrev pub kind_by : List ℕ → List ℕ → Kind
kind_by word rest =
    cond (bytes_eq word (codes "add")) (add_kind rest)
    (cond (bytes_eq word (codes "delete")) (delete_kind rest)
    (cond (bytes_eq word (codes "hex")) (hex_kind rest) no_kind))

-- a text that has a space, or none
abbrev pub kind_cut : List ℕ → Option Cut → Kind
kind_cut text None = cond (bytes_eq text (codes "noop")) noop_kind no_kind
kind_cut text (Some k) = kind_by k.front k.behind

-- a text, by what stands before its first space
abbrev pub kind_of : List ℕ → Kind
kind_of text = kind_cut text (cut 32 text)

-- the update of a text of each kind
abbrev pub IsUpdateOf : Kind → OpValue → Type 0
IsUpdateOf noop_kind op = op ≡ noop
IsUpdateOf (add_kind rest) op = add_in rest ≡ Some op
IsUpdateOf (delete_kind rest) op = delete_in rest ≡ Some op
IsUpdateOf (hex_kind rest) op = IsHexText rest op
IsUpdateOf no_kind op = ⊥

-- The update that a text writes: `noop`, `add DN|type: value|..`, `delete DN` or `hex MESSAGE`, and no other text
-- writes one.
abbrev pub IsUpdateText : List ℕ → OpValue → Type 0
IsUpdateText text op = IsUpdateOf (kind_of text) op
