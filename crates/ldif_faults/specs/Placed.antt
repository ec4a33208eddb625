-- A record of LDIF with its lines (RFC 2849), and a sentence with its line.
use Rattle.std.specs.Prelude.{ℕ, ◌+◌, List, [], ◌∷◌, slice_index_or, Option, None, Some}
use Rattle.ldif.specs.Records.{ValueModel, RecordModel}

-- a value, with the number of its line, counted from 1
pub record LineModel : Type 0 where
  pub number : ℕ
  pub description : List ℕ
  pub octets : List ℕ

-- a record, with the line of its name, and its values with theirs
pub record PlacedModel : Type 0 where
  pub number : ℕ
  pub name : List ℕ
  pub lines : List LineModel

-- values, the first of which has its line at this index of a record's lines
abbrev pub lines_from : List ℕ → ℕ → List ValueModel → List LineModel
lines_from place index [] = []
lines_from place index (v ∷ vs) =
    record { number = slice_index_or place index 0; description = v.description; octets = v.octets }
    ∷ lines_from place (index + 1) vs

-- a record with its lines: that of its name, then those of its values
abbrev pub placed : RecordModel → List ℕ → PlacedModel
placed r place = record { number = slice_index_or place 0 0; name = r.name; lines = lines_from place 1 r.values }

-- a line's number, and what a sentence says of it
pub record Told : Type 0 where
  pub line : ℕ
  pub sentence : List ℕ

-- a sentence of the whole record
abbrev pub at_name : PlacedModel → List ℕ → Told
at_name r sentence = record { line = r.number; sentence = sentence }

-- a sentence of a line
abbrev pub at_line : LineModel → List ℕ → Told
at_line line sentence = record { line = line.number; sentence = sentence }

-- a sentence of a value, or else of the whole record
abbrev pub told_or : Told → (LineModel → List ℕ) → Option LineModel → Told
told_or otherwise say None = otherwise
told_or otherwise say (Some line) = at_line line (say line)
