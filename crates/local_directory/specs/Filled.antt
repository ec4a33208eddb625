-- LDIF and the directory: a directory with the entries of a text.
use Rattle.std.specs.Prelude.{◌≡◌, ℕ, List, None, Ok, Err}
use Rattle.ldif.specs.Records.{RecordModel}
use Rattle.ldif.specs.Reading.{records_of}
use Rattle.dir_store.specs.indexed_tree.Directory.{Directory}
use Rattle.dir_store.specs.indexed_tree.Listed.{StoreModel}
use Rattle.local_directory.specs.Added.{adds, first_refused}
use Rattle.local_directory.specs.Searched.{filled, IsRefused}
use Rattle.local_directory.specs.declared.fault.SearchError.{SearchError}
use Rattle.local_directory.specs.declared.fault.SearchError.TheVariants.{BadLdif, Refused, Code, NoMemory}

-- All records of a text are added to a store, by the same indexes.
pub record IsFilled (s : StoreModel) (text : List ℕ) (t : StoreModel) : Type 0 where
  pub records : List RecordModel
  pub read : records_of text ≡ Ok records
  pub added : first_refused s.directory 0 (adds records) ≡ None
  pub directory_is : t.directory ≡ filled s.directory records
  pub indexes_are : t.indexes ≡ s.indexes

-- Why they are not: the first line that is no LDIF, or the first record that is refused.
abbrev pub IsFillFault : SearchError → Directory → List ℕ → Type 0
IsFillFault (BadLdif line cause) d text = records_of text ≡ Err (record { line = line; cause = cause })
IsFillFault (Refused number code) d text = IsRefused d text number code
IsFillFault (Code number) d text = ⊥
IsFillFault NoMemory d text = Unit {0}
