-- LDIF and the directory: which records of a text a directory refuses, when each is added in turn.
use Rattle.std.specs.Prelude.{◌≡◌, ℕ, ◌+◌, List, [], ◌∷◌, length, cond, nat_eq, Ok}
use Rattle.ldif.specs.Records.{RecordModel}
use Rattle.ldif.specs.Reading.{records_of}
use Rattle.dir_store.specs.directory_api.ldap_op.Values.{OpValue}
use Rattle.dir_store.specs.indexed_tree.Directory.{Directory}
use Rattle.dir_store.specs.Updates.{applied, reply_to}
use Rattle.local_directory.specs.Added.{adds}
use Rattle.local_directory.specs.declared.refused_record.RefusedRecord.{RefusedRecord}

-- The refusal of an update that has a code other than success (0), and those of the updates behind it.
abbrev pub refusal_and : ℕ → ℕ → List RefusedRecord → List RefusedRecord
refusal_and number code rest = cond (nat_eq code 0) rest (record { number = number; code = code } ∷ rest)

-- All of updates that a directory refuses, in order; they take one number after the other, the first that which follows
-- this one.
abbrev pub refusals : Directory → ℕ → List OpValue → List RefusedRecord
refusals d number [] = []
refusals d number (op ∷ ops) = refusal_and (number + 1) (reply_to d (number + 1) op).code
    (refusals (applied d (number + 1) op) (number + 1) ops)

-- A text has so many records, and these of them are refused.
pub record IsChecked (d : Directory) (text : List ℕ) (count : ℕ) (refused : List RefusedRecord) : Type 0 where
  pub records : List RecordModel
  pub read : records_of text ≡ Ok records
  pub counted : count ≡ length records
  pub refused_are : refused ≡ refusals d 0 (adds records)
