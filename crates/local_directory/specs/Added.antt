-- Records added to a directory.
use Rattle.std.specs.Prelude.{ℕ, ◌+◌, List, [], ◌∷◌, cond, nat_eq, Option, None, Some}
use Rattle.ldif.specs.Records.{RecordModel}
use Rattle.ldif.specs.Adds.{add_of}
use Rattle.dir_store.specs.directory_api.ldap_op.Values.{OpValue, add}
use Rattle.dir_store.specs.indexed_tree.Directory.{Directory}
use Rattle.dir_store.specs.Updates.{applied, reply_to}

-- the adds of records (RFC 4511 4.7)
abbrev pub adds : List RecordModel → List OpValue
adds [] = []
adds (r ∷ rs) = add (add_of r) ∷ adds rs

-- an update that is refused: its number and its result code
pub record Refusal : Type 0 where
  pub number : ℕ
  pub code : ℕ

-- the refusal of an update that has a code other than success (0), else that of the updates behind it
abbrev pub refusal_or : ℕ → ℕ → Option Refusal → Option Refusal
refusal_or number code rest = cond (nat_eq code 0) rest (Some (record { number = number; code = code }))

-- The first of updates that a directory refuses; they take one number after the other, the first that which follows
-- this one.
abbrev pub first_refused : Directory → ℕ → List OpValue → Option Refusal
first_refused d number [] = None
first_refused d number (op ∷ ops) = refusal_or (number + 1) (reply_to d (number + 1) op).code
    (first_refused (applied d (number + 1) op) (number + 1) ops)
