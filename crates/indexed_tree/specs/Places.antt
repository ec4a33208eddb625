-- Where entries stand: RFC 4512 2.1 to 2.3. Names are one whatever their spelling.
use Rattle.std.specs.Prelude.{ℕ, zero, suc, ◌-◌, List, [], ◌∷◌, length, take, drop, map, Bool, cond, ◌&&◌, nat_eq, nat_lt, Option, None, Some, is_some}
use Rattle.std.specs.List.{list_any}
use Rattle.dir_index.specs.ldap_dn.Names.{TypeAndValue, RdnModel, rdns}
use Rattle.dir_index.specs.dir_entry.Entry.{AttributeModel}
use Rattle.directory_api.specs.dir_tree.Directory.{NameKey, name_eq, begins}
use Rattle.indexed_tree.specs.Directory.{NamedEntry}
pub use Rattle.directory_api.specs.dir_tree.Directory.{name_after}

-- the entry of a name
abbrev pub entry_named : NameKey → List NamedEntry → Option NamedEntry
entry_named q [] = None
entry_named q (e ∷ es) = cond (name_eq q (rdns e.name)) (Some e) (entry_named q es)

-- whether an entry stands below a name (RFC 4512 2.1, subordinate)
abbrev pub has_subordinate : NameKey → List NamedEntry → Bool
has_subordinate q es = list_any (λ e. begins q (rdns e.name) && nat_lt (length q) (length (rdns e.name))) es

-- the length of the longest of the first i fronts of a name that is an entry's name
abbrev pub front_from : ℕ → NameKey → List NamedEntry → ℕ
front_from zero q es = 0
front_from (suc i) q es = cond (is_some (entry_named (take (suc i) q) es)) (suc i) (front_from i q es)

-- the entry of the longest front of a name that has one
abbrev pub nearest : NameKey → List NamedEntry → Option NamedEntry
nearest q es = entry_named (take (front_from (length q) q es) q) es

-- the name right above a name; of the empty name itself
abbrev pub parent_of : List RdnModel → List RdnModel
parent_of name = take (length name - 1) name

-- a name's own relative name, as a name of one
abbrev pub last_of : List RdnModel → List RdnModel
last_of name = drop (length name - 1) name

-- how the first of these relative names is spelled; nothing where there is none
abbrev pub spelling_of : List RdnModel → List TypeAndValue
spelling_of [] = []
spelling_of (r ∷ rs) = r.spelling

-- the types and values of a name's own relative name, as they are spelled (RFC 4512 2.3.1)
abbrev pub own_rdn : List RdnModel → List TypeAndValue
own_rdn name = spelling_of (last_of name)

-- the entries without that of a number
abbrev pub without_entry : ℕ → List NamedEntry → List NamedEntry
without_entry k [] = []
without_entry k (e ∷ es) = cond (nat_eq k e.number) es (e ∷ without_entry k es)

-- the entries with other attributes in that of a number
abbrev pub with_attributes : ℕ → List AttributeModel → List NamedEntry → List NamedEntry
with_attributes k attributes [] = []
with_attributes k attributes (e ∷ es) =
    cond (nat_eq k e.number) (record { number = e.number; name = e.name; attributes = attributes } ∷ es)
    (e ∷ with_attributes k attributes es)

-- The entries once one has another name and other attributes: each name that begins with the old one begins with the
-- new one in its place, and all else stays (RFC 4511 4.9).
abbrev pub moved : NameKey → List RdnModel → List AttributeModel → List NamedEntry → List NamedEntry
moved old new attributes es =
    map (λ e. record {
      number = e.number;
      name = name_after old new e.name;
      attributes =
          cond (name_eq old (rdns e.name)) attributes e.attributes;
    }) es
