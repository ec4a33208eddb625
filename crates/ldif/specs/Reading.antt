-- Records from what the lines of a text say.
use Rattle.std.specs.Prelude.{ℕ, List, [], ◌∷◌, ◌++◌, Bool, true, false, cond, ◌&&◌, Option, None, Some, nat_eq, codes}
use Rattle.std.specs.declared.result.Result.{Result}
use Rattle.std.specs.declared.result.Result.TheVariants.{Ok, Err}
use Rattle.ldif.specs.Descriptions.{is_same_word}
use Rattle.ldif.specs.Records.{ValueModel, RecordModel}
use Rattle.ldif.specs.Lines.{LineModel, lines_of}
use Rattle.ldif.specs.declared.fault.LdifCause.{LdifCause}
use Rattle.ldif.specs.declared.fault.LdifCause.TheVariants.{SecondName, NoRecord, LateVersion, BadVersion}
use Rattle.ldif.specs.Says.{Says, blank, comment, named, valued, encoded, wrong, line_says}

-- what was read so far: whole records, the one that stands open, and whether a version or a record has come
pub record ReadingModel : Type 0 where
  pub done : List RecordModel
  pub current : Option RecordModel
  pub begun : Bool

-- the records, with the one that isn't closed yet behind them
abbrev pub with_open : List RecordModel → Option RecordModel → List RecordModel
with_open rs None = rs
with_open rs (Some r) = rs ++ r ∷ []

-- an empty line ends the open record (RFC 2849, SEP between records)
abbrev pub after_blank : ReadingModel → ReadingModel
after_blank s = record { done = with_open s.done s.current; current = None; begun = s.begun }

-- a name begins a record, and stands in no other one (RFC 2849, ldif-attrval-record)
abbrev pub after_name : ReadingModel → List ℕ → Option RecordModel → Result ReadingModel LdifCause
after_name s name None =
    Ok (record { done = s.done; current = Some (record { name = name; values = [] }); begun = true })
after_name s name (Some r) = Err SecondName

-- `1`
abbrev pub is_one : List ℕ → Bool
is_one [] = false
is_one (c ∷ []) = nat_eq c 49
is_one (c ∷ d ∷ ds) = false

-- whether a value is the version 1, where it stands as it is (RFC 2849, version-spec)
abbrev pub is_version : ValueModel → Bool
is_version v = is_same_word v.description (codes "version") && is_one v.octets

-- why a value stands outside records, by whether a version or a record has come: it is of a version, or of no record
abbrev pub misplaced : Bool → ValueModel → LdifCause
misplaced begun v = cond (is_same_word v.description (codes "version")) (cond begun LateVersion BadVersion) NoRecord

-- a value is its record's; before all else it may be the version, where its line is one
abbrev pub after_value : ReadingModel → Bool → ValueModel → Option RecordModel → Result ReadingModel LdifCause
after_value s is_version_line v None =
    cond s.begun (Err (misplaced true v))
    (cond is_version_line (Ok (record { done = s.done; current = None; begun = true })) (Err (misplaced false v)))
after_value s is_version_line v (Some r) =
    Ok (record {
      done = s.done;
      current = Some (record { name = r.name; values = r.values ++ v ∷ [] });
      begun = s.begun;
    })

-- after one more line; no line of base64 is the version, whose number stands as it is (RFC 2849, version-spec)
abbrev pub after_line : ReadingModel → Says → Result ReadingModel LdifCause
after_line s blank = Ok (after_blank s)
after_line s comment = Ok s
after_line s (named name) = after_name s name s.current
after_line s (valued v) = after_value s (is_version v) v s.current
after_line s (encoded v) = after_value s false v s.current
after_line s (wrong cause) = Err cause

-- a line that is wrong: its number, and the cause
pub record FaultModel : Type 0 where
  pub line : ℕ
  pub cause : LdifCause

-- what follows, or the line that has no meaning there
abbrev pub or_wrong : Result ReadingModel LdifCause → ℕ → (ReadingModel → Result (List RecordModel) FaultModel)
    → Result (List RecordModel) FaultModel
or_wrong (Err cause) n go = Err (record { line = n; cause = cause })
or_wrong (Ok s) n go = go s

-- the records of the lines that follow, after what was read
abbrev pub read_from : ReadingModel → List LineModel → Result (List RecordModel) FaultModel
read_from s [] = Ok (with_open s.done s.current)
read_from s (l ∷ ls) = or_wrong (after_line s (line_says l.text)) l.number (λ t. read_from t ls)

-- before the first line
abbrev pub nothing_read : ReadingModel
nothing_read = record { done = []; current = None; begun = false }

-- The records of a text, or its first line that is wrong.
abbrev pub records_of : List ℕ → Result (List RecordModel) FaultModel
records_of text = read_from nothing_read (lines_of text)
