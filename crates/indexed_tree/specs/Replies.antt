-- Replies of updates and compares: RFC 4511 4.1.9.
use Rattle.std.specs.Prelude.{ℕ, List, [], Bool, cond, Option, None, Some, Result, Ok, Err}
use Rattle.std.specs.Option.{option_map_or}
use Rattle.dir_index.specs.ldap_dn.Names.{RdnModel, rdns}
use Rattle.dir_index.specs.ldap_dn.Printed.{printed_name}
use Rattle.dir_index.specs.ldap_dn.Texts.{name_of_text}
use Rattle.dir_index.specs.ldap_schema.Schema.{SchemaModel}
use Rattle.directory_api.specs.Answers.{ReplyModel, only}
use Rattle.indexed_tree.specs.Directory.{Directory, NamedEntry}
use Rattle.indexed_tree.specs.Places.{entry_named, nearest}

-- noSuchObject (32), with the printed name of the entry at the longest front of the name that has one, if any (RFC 4511
-- 4.1.9)
abbrev pub not_found : Directory → List RdnModel → ReplyModel
not_found d name = record {
  code = 32;
  matched = option_map_or (λ e. printed_name d.schema e.name)
      (nearest (rdns name) d.entries) [];
}

-- what comes after a step that may refuse
abbrev pub then : {A B : Type 0} → Result A ReplyModel → (A → Result B ReplyModel) → Result B ReplyModel
then (Err reply) next = Err reply
then (Ok x) next = next x

-- a check: where it holds, this is the reply, else what comes after it
abbrev pub refuse : {A : Type 0} → Bool → ReplyModel → Result A ReplyModel → Result A ReplyModel
refuse test reply rest = cond test (Err reply) rest

-- what is there, or this reply
abbrev pub or_refused : {A : Type 0} → Option A → ReplyModel → Result A ReplyModel
or_refused None reply = Err reply
or_refused (Some x) reply = Ok x

-- what attributes come to, or their code alone
abbrev pub with_reply : {A : Type 0} → Result A ℕ → Result A ReplyModel
with_reply (Err code) = Err (only code)
with_reply (Ok x) = Ok x

-- the name of a text; invalidDNSyntax (34)
abbrev pub name_asked : SchemaModel → List ℕ → Result (List RdnModel) ReplyModel
name_asked s text = or_refused (name_of_text s text) (only 34)

-- the entry of a name; noSuchObject (32)
abbrev pub entry_asked : Directory → List RdnModel → Result NamedEntry ReplyModel
entry_asked d name = or_refused (entry_named (rdns name) d.entries) (not_found d name)
