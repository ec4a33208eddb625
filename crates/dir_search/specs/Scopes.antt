-- Which entries a search looks at: RFC 4511 4.5.1.2.
use Rattle.std.specs.Prelude.{Bool, false, [], ◌∷◌}
use Rattle.indexed_tree.specs.directory_api.ldap_msg.ldap_requests.declared.search.Scope.{Scope}
use Rattle.indexed_tree.specs.directory_api.ldap_msg.ldap_requests.declared.search.Scope.TheVariants.{BaseObject, SingleLevel, WholeSubtree, SubordinateSubtree}
use Rattle.indexed_tree.specs.dir_tree.Directory.{NameKey, name_eq, begins, is_child}

-- whether a name stands right under a base; right under the empty name stands the directory's root alone (RFC 4512 5.1)
abbrev pub is_right_under : NameKey → NameKey → NameKey → Bool
is_right_under suffix [] name = name_eq suffix name
is_right_under suffix (r ∷ base) name = is_child (r ∷ base) name

-- Whether a name is in scope: the base alone, those right under it, or those at or below it (RFC 4511 4.5.1.2).
abbrev pub is_in_scope : NameKey → Scope → NameKey → NameKey → Bool
is_in_scope suffix BaseObject base name = name_eq base name
is_in_scope suffix SingleLevel base name = is_right_under suffix base name
is_in_scope suffix WholeSubtree base name = begins base name
is_in_scope suffix SubordinateSubtree base name = false
