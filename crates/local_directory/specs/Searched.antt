-- Searches of what a text adds.
use Rattle.std.specs.Prelude.{◌≡◌, ◌≢◌, ℕ, List, map, None, Some, Ok, Err}
use Rattle.ldif.specs.Records.{RecordModel}
use Rattle.ldif.specs.Reading.{records_of}
use Rattle.ldif.specs.Written.{ldif_text}
use Rattle.ldif.specs.Entries.{record_of}
use Rattle.dir_store.specs.directory_api.ldap_msg.Messages.{SearchRequestValue}
use Rattle.dir_store.specs.indexed_tree.Directory.{Directory}
use Rattle.dir_store.specs.Updates.{directory_after}
use Rattle.dir_search.specs.Answer.{answer}
use Rattle.dir_store.specs.directory_api.Answers.{Answer}
use Rattle.local_directory.specs.Added.{adds, first_refused}
use Rattle.local_directory.specs.declared.fault.SearchError.{SearchError}
use Rattle.local_directory.specs.declared.fault.SearchError.TheVariants.{BadLdif, Refused, Code, NoMemory}

-- the text of an answer: a record for each entry that is shown, in order
abbrev pub answer_text : Answer → List ℕ
answer_text a = ldif_text (map record_of a.entries)

-- a directory with the entries that records add, as the operations 1, 2 ..
abbrev pub filled : Directory → List RecordModel → Directory
filled d rs = directory_after d 0 (adds rs)

-- What is written: the records of the text are all added, and the search of the directory after them is answered with
-- success, by these entries.
pub record IsSearched (d : Directory) (text : List ℕ) (q : SearchRequestValue) (out : List ℕ) : Type 0 where
  pub records : List RecordModel
  pub read : records_of text ≡ Ok records
  pub added : first_refused d 0 (adds records) ≡ None
  pub success : (answer (filled d records) q).code ≡ 0
  pub written : out ≡ answer_text (answer (filled d records) q)

-- the first record of the text that is refused, and its code
pub record IsRefused (d : Directory) (text : List ℕ) (number code : ℕ) : Type 0 where
  pub records : List RecordModel
  pub read : records_of text ≡ Ok records
  pub refused : first_refused d 0 (adds records) ≡ Some (record { number = number; code = code })

-- all records are added, and the search is answered with this code, which is not success
pub record IsUnsuccessful (d : Directory) (text : List ℕ) (q : SearchRequestValue) (code : ℕ) : Type 0 where
  pub records : List RecordModel
  pub read : records_of text ≡ Ok records
  pub added : first_refused d 0 (adds records) ≡ None
  pub code_is : (answer (filled d records) q).code ≡ code
  pub other : code ≢ 0

-- Why nothing is written: the first line that is no LDIF, the first record that is refused, or the code of the search.
abbrev pub IsSearchFault : SearchError → Directory → List ℕ → SearchRequestValue → Type 0
IsSearchFault (BadLdif line cause) d text q = records_of text ≡ Err (record { line = line; cause = cause })
IsSearchFault (Refused number code) d text q = IsRefused d text number code
IsSearchFault (Code number) d text q = IsUnsuccessful d text q number
IsSearchFault NoMemory d text q = Unit {0}

-- why a text has no records
abbrev pub IsReadFault : SearchError → List ℕ → Type 0
IsReadFault (BadLdif line cause) text = records_of text ≡ Err (record { line = line; cause = cause })
IsReadFault (Refused number code) text = ⊥
IsReadFault (Code number) text = ⊥
IsReadFault NoMemory text = Unit {0}

-- why an answer has no text: its code is not success, or memory ran out
abbrev pub IsShowFault : SearchError → Answer → Type 0
IsShowFault (BadLdif line cause) a = ⊥
IsShowFault (Refused number code) a = ⊥
IsShowFault (Code number) a = (a.code ≡ number) × (number ≢ 0)
IsShowFault NoMemory a = Unit {0}
