use Rattle.std.proofs.Common.{◌≡◌, map, take}
use Rattle.ldap_msg.specs.ldap_parts.View.{attribute_view}
use Rattle.directory_api.proofs.shown_attribute.copy_all.Given as goal

-- those so far
abbrev pub invariant-loop-attribute : goal.invariant-loop-attribute
invariant-loop-attribute l = map attribute_view l.copies.items ≡ take l.attribute-index l.attributes
