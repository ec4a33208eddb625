-- Lists of executed records, and beginnings of them.
use Rattle.std.specs.Prelude.{◌≡◌, List, [], ◌++◌, length, cond, nat_lt}
use mathlib.Core.List.{IsPrefix}
use Rattle.vr_state.specs.Words.{LogEntry}
use Rattle.state_machine.specs.dir_store.ldap_op.Values.{OpValue}
use Rattle.state_machine.specs.dir_store.ldap_schema.Schema.{SchemaModel}
use Rattle.state_machine.specs.dir_store.ldap_dn.Names.{RdnModel}
use Rattle.state_machine.specs.dir_store.index_choice.declared.kinds.Kinds.{Kinds}
use Rattle.state_machine.specs.Executing.{ExecutedValue}

-- nothing executed, over a schema, an index choice and the name of the root
abbrev pub nothing_over : SchemaModel → List Kinds → List RdnModel → ExecutedValue
nothing_over schema indexes suffix = record { schema = schema; suffix = suffix; indexes = indexes; records = [] }

-- what is executed with further records at the end, over the same schema, root and index choice
abbrev pub with_records : ExecutedValue → List (LogEntry OpValue) → ExecutedValue
with_records v es = record { schema = v.schema; suffix = v.suffix; indexes = v.indexes; records = v.records ++ es }

-- The records of one are a beginning of the other's, over the same schema, root and index choice.
pub record IsBeginning (a b : ExecutedValue) : Type 0 where
  pub schema : b.schema ≡ a.schema
  pub suffix : b.suffix ≡ a.suffix
  pub indexes : b.indexes ≡ a.indexes
  pub records : IsPrefix a.records b.records

-- the one with more records, and the first where they have as many
abbrev pub longer : ExecutedValue → ExecutedValue → ExecutedValue
longer one other = cond (nat_lt (length one.records) (length other.records)) other one
