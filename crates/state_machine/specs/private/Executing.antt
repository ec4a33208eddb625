-- What was executed: what contracts that aren't public say of it.
-- What public contracts say is in specs/Executing.
use Rattle.std.specs.Prelude.{◌≡◌, ◌+◌, ℕ, List, map, length}
use Rattle.dir_store.specs.directory_api.log_entry.declared.words.LogEntry.{LogEntry}
use Rattle.dir_store.specs.ldap_schema.Schema.{SchemaModel}
use Rattle.dir_store.specs.ldap_dn.Names.{RdnModel}
use Rattle.dir_store.specs.ldap_op.Values.{OpValue}
use Rattle.dir_store.specs.indexed_tree.Directory.{Directory}
use Rattle.dir_store.specs.directory_api.Answers.{ReplyModel}
use Rattle.dir_store.specs.indexed_tree.Stored.{NumbersBelow}
use Rattle.dir_store.specs.Updates.{directory_of, replies_of, directory_after, replies_after}
use Rattle.dir_store.specs.directory_api.View.{reply_view}
use Rattle.dir_store.specs.directory_api.declared.reply.Reply.{Reply}
use Rattle.state_machine.specs.Executing.{ops_of}

-- replies in memory stand for
abbrev pub replies_view : List Reply → List ReplyModel
replies_view rs = map reply_view rs

-- a directory and replies are those of the records, under a schema and a suffix
pub record IsFold (s : SchemaModel) (suffix : List RdnModel) (records : List (LogEntry OpValue)) (d : Directory)
    (replies : List ReplyModel) : Type 0 where
  pub directory : d ≡ directory_of s suffix (ops_of records)
  pub replies_are : replies ≡ replies_of s suffix (ops_of records)
  pub below : NumbersBelow (length records + 1) d.entries

-- a directory and replies are those of the records from a directory on, the first under the number that follows this one
pub record IsRun (from : Directory) (number : ℕ) (records : List (LogEntry OpValue)) (d : Directory)
    (replies : List ReplyModel) : Type 0 where
  pub directory : d ≡ directory_after from number (ops_of records)
  pub replies_are : replies ≡ replies_after from number (ops_of records)
  pub below : NumbersBelow (number + length records + 1) d.entries
