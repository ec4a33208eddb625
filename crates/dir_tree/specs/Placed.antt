-- How a new name is spelled: every name below an entry begins with that entry's own spelling.
use Rattle.std.specs.Prelude.{◌≡◌, ◌-◌, List, [], ◌∷◌, ◌++◌, false, length, drop, cond, Option, Some, None}
use Rattle.dir_entry.specs.ldap_dn.Names.{RdnModel, rdns}
use Rattle.dir_tree.specs.Directory.{NameKey, Entered, name_eq, above, find}

-- a name's own relative name, behind its superior's name as that is spelled
abbrev pub name_under : Option Entered → List RdnModel → List RdnModel
name_under None name = name
name_under (Some superior) name = superior.name ++ drop (length name - 1) name

-- a new name: the root's as it is given, any other as above
abbrev pub name_placed : NameKey → List RdnModel → List Entered → List RdnModel
name_placed suffix name d = cond (name_eq (rdns name) suffix) name (name_under (find (above (rdns name)) d) name)

-- each name but the root's is its superior's, as that is spelled, and one relative name behind it
abbrev pub IsSpelled : NameKey → List Entered → Type 0
IsSpelled suffix d = (q : NameKey) (e : Entered) → find q d ≡ Some e → name_eq q suffix ≡ false
    → (superior : Entered) × (r : RdnModel) × (find (above q) d ≡ Some superior) × (e.name ≡ superior.name ++ r ∷ [])

-- an entry's name and one relative name behind it are placed as they stand
abbrev pub IsPlacedAsSpelled : NameKey → List Entered → Type 0
IsPlacedAsSpelled suffix d = (q : NameKey) (e : Entered) (r : RdnModel) → find q d ≡ Some e →
    name_placed suffix (e.name ++ r ∷ []) d ≡ e.name ++ r ∷ []
