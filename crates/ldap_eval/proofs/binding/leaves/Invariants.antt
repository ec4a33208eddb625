use Rattle.std.proofs.Common.{◌≡◌, ◌++◌, drop}
use Rattle.ldap_eval.specs.private.Asked.{item_of}
use Rattle.ldap_eval.specs.Bound.{leaves_from, leaves_for}
use Rattle.ldap_eval.proofs.binding.leaves.Given as goal

abbrev pub invariant-loop-number : goal.invariant-loop-number
invariant-loop-number l = l.leaves.items ++ leaves_from l.schema (item_of l.asked) l.type_id
    (drop l.number l.schema.types) l.number ≡ leaves_for l.schema (item_of l.asked) l.type_id
