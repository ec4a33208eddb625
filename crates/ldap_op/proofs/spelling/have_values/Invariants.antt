use Rattle.std.proofs.Common.{map, take}
use Rattle.std.specs.List.{AllByRecursion}
use Rattle.std.specs.Str.{IsUtf8}
use Rattle.ldap_parts.specs.View.{attribute_view}
use Rattle.ldap_parts.specs.UpdateGrammar.{HasAValue}
use Rattle.ldap_op.proofs.spelling.have_values.Given as goal

abbrev pub invariant-loop-attribute : goal.invariant-loop-attribute
invariant-loop-attribute l = AllByRecursion (λ x. IsUtf8 x.description × HasAValue x)
    (map attribute_view (take l.attribute-index l.attributes))
