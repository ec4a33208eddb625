-- The value of an update that is looked at.
use Rattle.ldap_op.specs.Values.{OpValue}
use Rattle.ldap_op.specs.View.{update_view}
use Rattle.ldap_op.specs.declared.looked.Looked.{Looked}
use Rattle.ldap_op.specs.declared.looked.Looked.TheVariants.{Read, Kept}

-- the value of the update that was read, or that is there
abbrev pub looked_view : Looked → OpValue
looked_view (Read update) = update_view update
looked_view (Kept update) = update_view update.now
