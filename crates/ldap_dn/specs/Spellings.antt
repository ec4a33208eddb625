-- What is kept of a relative name's spelling.
use Rattle.std.specs.Prelude.{List, [], ◌∷◌}
use Rattle.ldap_dn.specs.Names.{TypeAndValue}
use Rattle.ldap_dn.specs.declared.rdn.Spelling.{Spelling}
use Rattle.ldap_dn.specs.declared.rdn.Spelling.TheVariants.{One, Many}

-- the types and values, in the order written
abbrev pub spelled_in : Spelling → List TypeAndValue
spelled_in (One only) = only ∷ []
spelled_in (Many list) = list.items
