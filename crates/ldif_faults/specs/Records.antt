-- What is wrong with a record of LDIF whose add a directory refuses (RFC 4511 4.7): a schema, a text, the record's
-- number and a result code come in, a line's number and a sentence go out.
use Rattle.std.specs.Prelude.{◌++◌, ℕ, ◌-◌, List, [], nat_eq, cond, codes, slice_get}
use Rattle.std.specs.declared.result.Result.{Result}
use Rattle.std.specs.declared.result.Result.TheVariants.{Ok, Err}
use Rattle.std.specs.Option.{unwrap_or}
use Rattle.ldap_match.specs.ldap_schema.Schema.{SchemaModel}
use Rattle.ldif.specs.Records.{RecordModel}
use Rattle.ldif.specs.Reading.{FaultModel, records_of}
use Rattle.ldif.specs.Placing.{record_lines}
use Rattle.text_faults.specs.Names.{name_sentence}
use Rattle.ldif_faults.specs.Placed.{PlacedModel, Told, at_name, placed}
use Rattle.ldif_faults.specs.Values.{by_code, unknown_type, repeated, doubled, no_value}
use Rattle.ldif_faults.specs.Classes.{broken_class}

-- the codes above 30 of which more is said than their names: 32, 34, 65 and 68
abbrev pub told_above : SchemaModel → PlacedModel → ℕ → Told
told_above s r code =
    cond (nat_eq code 32) (at_name r (codes "the entry above this one has no record before it"))
    (cond (nat_eq code 34) (at_name r (codes "invalid name: " ++ name_sentence s r.name))
    (cond (nat_eq code 65) (broken_class s r)
    (cond (nat_eq code 68) (at_name r (codes "a record before this one has the same name")) (by_code r code))))

-- what is told of a record: first the codes that are of one value, 17, 19, 20 and 21
abbrev pub told : SchemaModel → PlacedModel → ℕ → Told
told s r code =
    cond (nat_eq code 17) (unknown_type s r)
    (cond (nat_eq code 19) (repeated s r)
    (cond (nat_eq code 20) (doubled s r)
    (cond (nat_eq code 21) (no_value s r) (told_above s r code))))

-- the records that were read; none, where a line is wrong
abbrev pub all_read : Result (List RecordModel) FaultModel → List RecordModel
all_read (Ok rs) = rs
all_read (Err fault) = []

-- the records of a text, and the lines of each
pub record RecordsModel : Type 0 where
  pub records : List RecordModel
  pub places : List (List ℕ)

-- those of a text
abbrev pub records_in : List ℕ → RecordsModel
records_in text = record { records = all_read (records_of text); places = record_lines text }

-- a record that isn't there
abbrev pub nothing : RecordModel
nothing = record { name = []; values = [] }

-- the record of a number, counted from 1, with its lines
abbrev pub placed_at : RecordsModel → ℕ → PlacedModel
placed_at rs number = placed (unwrap_or (slice_get rs.records (number - 1)) nothing)
    (unwrap_or (slice_get rs.places (number - 1)) [])

-- What is told of the record of a number, counted from 1.
abbrev pub record_told : SchemaModel → RecordsModel → ℕ → ℕ → Told
record_told s rs number code = told s (placed_at rs number) code
