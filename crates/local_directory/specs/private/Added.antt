-- LDIF and the directory: what contracts that aren't public say of it.
-- What public contracts say is in specs/Added.
use Rattle.std.specs.Prelude.{◌≡◌, ℕ, List, false, nat_eq, Some}
use Rattle.ldif.specs.Records.{RecordModel}
use Rattle.dir_store.specs.indexed_tree.Directory.{Directory}
use Rattle.local_directory.specs.declared.fault.SearchError.{SearchError}
use Rattle.local_directory.specs.declared.fault.SearchError.TheVariants.{BadLdif, Refused, Code, NoMemory}
use Rattle.local_directory.specs.Added.{adds, first_refused}

-- why a record is not added: it is refused, with this number and code, or memory ran out
abbrev pub IsPutFault : SearchError → ℕ → ℕ → Type 0
IsPutFault (BadLdif line cause) n k = ⊥
IsPutFault (Refused number code) n k = (number ≡ n) × (code ≡ k) × (nat_eq k 0 ≡ false)
IsPutFault (Code number) n k = ⊥
IsPutFault NoMemory n k = Unit {0}

-- why records are not all added: the first that is refused, or memory ran out
abbrev pub IsAddFault : SearchError → Directory → List RecordModel → Type 0
IsAddFault (BadLdif line cause) d rs = ⊥
IsAddFault (Refused number code) d rs = first_refused d 0 (adds rs) ≡ Some (record { number = number; code = code })
IsAddFault (Code number) d rs = ⊥
IsAddFault NoMemory d rs = Unit {0}
