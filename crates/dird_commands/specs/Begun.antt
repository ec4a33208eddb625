-- How a session begins: its directory, and who may change it.
use Rattle.std.specs.Prelude.{◌≡◌, ◌⊎◌, ℕ, List, [], Bool, true, false, codes, Option, None, Some}
use Rattle.local_directory.specs.ldap_schema.Schema.{SchemaModel}
use Rattle.local_directory.specs.ldap_dn.Names.{RdnModel}
use Rattle.local_directory.specs.ldap_dn.Texts.{name_of_text}
use Rattle.local_directory.specs.indexed_tree.Directory.{Directory}
use Rattle.local_directory.specs.dir_store.Updates.{directory_after}
use Rattle.std.specs.FinMap as map
use Rattle.local_directory.specs.directory_api.Clients.{session_client}
use Rattle.local_directory.specs.session_handler.Session.{ConfigValue}
use Rattle.local_directory.specs.Local.{LocalValue}
use Rattle.local_directory.specs.Allows.{allows}
use Rattle.local_directory.specs.ldap_session.declared.end.SessionEnd.{SessionEnd}
use Rattle.local_directory.specs.Answered.{Answers, Fails}
use Rattle.local_directory.specs.declared.line_fault.LineFault.{LineFault}
use Rattle.dird_commands.specs.declared.fault.Fault.{Fault}
use Rattle.dird_commands.specs.Undone.{line_fault}
use Rattle.dird_commands.specs.Sample.{sample}

-- a name; the one of no relative names, where there is none
abbrev pub or_empty : Option (List RdnModel) → List RdnModel
or_empty None = []
or_empty (Some name) = name

-- the name of a text under a schema
abbrev pub name_of : SchemaModel → List ℕ → List RdnModel
name_of s text = or_empty (name_of_text s text)

-- the directory without entries, under a schema, whose root has this name
abbrev pub empty_under : SchemaModel → List RdnModel → Directory
empty_under s suffix = record { schema = s; suffix = suffix; entries = [] }

-- the directory without entries, under a schema, whose root is dc=example,dc=com
abbrev pub empty_directory : SchemaModel → Directory
empty_directory s = empty_under s (name_of s (codes "dc=example,dc=com"))

-- the directory at first: without entries, or after the sample's adds, the operations 1 to 6
abbrev pub directory_at_first : SchemaModel → Bool → Directory
directory_at_first s false = empty_directory s
directory_at_first s true = directory_after (empty_directory s) 0 sample

-- the number of the last update at first
abbrev pub number_at_first : Bool → ℕ
number_at_first false = 0
number_at_first true = 6

-- What its sessions share: the manager is cn=admin,dc=example,dc=com with the password secret; the session is the first
-- at replica 0.
abbrev pub config_of : SchemaModel → ConfigValue
config_of s = record {
  schema = s;
  manager = name_of s (codes "cn=admin,dc=example,dc=com");
  password = codes "secret";
  client = session_client 0 0 1;
}

-- the directory at first, which no client has asked for an update yet
abbrev pub local_at_first : SchemaModel → Bool → LocalValue
local_at_first s with_sample = record {
  directory = directory_at_first s with_sample;
  number = number_at_first
      with_sample;
  latest = map.empty;
}

-- An input is answered by one session over a local directory, from its beginning on.
abbrev pub AnswersFrom : SchemaModel → Bool → Option (List ℕ) → Option (List ℕ) → Option (List ℕ) → Option (List ℕ) →
    SessionEnd → Type 0
AnswersFrom s with_sample input left output grown end =
    (after : LocalValue) × Answers allows (config_of s) (local_at_first s with_sample) after input left output grown end

-- A session over a local directory that ends by a fault has written nothing, since it did not begin; or it has written
-- what such a session over lines has written by then.
abbrev pub IsCutFrom : ConfigValue → LocalValue → LocalValue → Option (List ℕ) → Option (List ℕ) → Option (List ℕ) →
    Fault → Type 0
IsCutFrom c d e input output grown fault = (grown ≡ output) ⊎ ((error : LineFault) × (fault ≡ line_fault error)
    × Fails allows c d e input output grown error)

-- the same from its beginning on
abbrev pub FailsFrom : SchemaModel → Bool → Option (List ℕ) → Option (List ℕ) → Option (List ℕ) → Fault → Type 0
FailsFrom s with_sample input output grown fault = (after : LocalValue) × IsCutFrom (config_of s)
    (local_at_first s with_sample) after input output grown fault
