-- What was executed.
use Rattle.std.specs.Prelude.{◌≡◌, ◌≢◌, ℕ, List, [], ◌++◌, map, take, drop}
use Rattle.dir_store.specs.directory_api.log_entry.declared.words.LogEntry.{LogEntry}
use Rattle.dir_store.specs.ldap_schema.Schema.{SchemaModel}
use Rattle.dir_store.specs.ldap_dn.Names.{RdnModel}
use Rattle.dir_store.specs.index_choice.declared.kinds.Kinds.{Kinds}
use Rattle.dir_store.specs.ldap_op.Values.{OpValue}
use Rattle.dir_store.specs.indexed_tree.Directory.{Directory}
use Rattle.dir_store.specs.directory_api.Answers.{ReplyModel}
use Rattle.dir_store.specs.Updates.{directory_of, replies_of}

-- what was executed, and over what: a schema, the name of the root, an index choice
pub record ExecutedValue : Type 0 where
  pub schema : SchemaModel
  pub suffix : List RdnModel
  pub indexes : List Kinds
  pub records : List (LogEntry OpValue)

-- the updates of records
abbrev pub ops_of : List (LogEntry OpValue) → List OpValue
ops_of records = map (λ (e : LogEntry OpValue). e.payload) records

-- the directory after the records
abbrev pub directory_at : ExecutedValue → Directory
directory_at e = directory_of e.schema e.suffix (ops_of e.records)

-- the reply to each record, in order
abbrev pub replies_at : ExecutedValue → List ReplyModel
replies_at e = replies_of e.schema e.suffix (ops_of e.records)

-- the committed records of a log that come next after so many
abbrev pub due_after : ℕ → ℕ → List (LogEntry OpValue) → List (LogEntry OpValue)
due_after n commit_number log = drop n (take commit_number log)

-- What is executed grows by a front of what comes next, and not by all of it.
pub record IsFront (old due new : List (LogEntry OpValue)) : Type 0 where
  pub done : List (LogEntry OpValue)
  pub left : List (LogEntry OpValue)
  pub both : done ++ left ≡ due
  pub grown : new ≡ old ++ done
  pub more : left ≢ []
