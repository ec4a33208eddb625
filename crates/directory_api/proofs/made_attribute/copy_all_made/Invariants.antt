use Rattle.std.proofs.Common.{◌≡◌, map, take}
use Rattle.ldap_msg.specs.ldap_parts.View.{attribute_view}
use Rattle.directory_api.proofs.made_attribute.copy_all_made.Given as goal

-- those so far
abbrev pub invariant-loop-attribute : goal.invariant-loop-attribute
invariant-loop-attribute l = map attribute_view l.copies.items ≡ map attribute_view
    (take l.attribute-index l.attributes)
