-- LDIF and messages: what the loop of `lines_of_all` keeps.
use Rattle.std.proofs.Common.{◌≡◌, ◌++◌, drop, map}
use Rattle.ldap_msg.specs.View.{attribute_view}
use Rattle.ldif.specs.Entries.{lines_of_all}
use Rattle.ldif.proofs.showing.lines_of_all.Given as goal

abbrev pub invariant-loop-attribute : goal.invariant-loop-attribute
invariant-loop-attribute l = l.values.items ++ lines_of_all (map attribute_view (drop l.attribute-index l.attributes))
    ≡ lines_of_all (map attribute_view l.attributes)
