use Rattle.std.proofs.Common.{◌≡◌, ◌≤◌, List, length}
use Rattle.std.specs.List.{list_all}
use Rattle.ldap_eval.specs.dir_entry.Entry.{KeyedAttribute}
use Rattle.dir_index.specs.index_choice.declared.kinds.Kinds.{Kinds}
use Rattle.search_plans.specs.Sets.{holds}
use Rattle.search_plans.proofs.joining.join_bounds.Given as goal

abbrev pub invariant-loop-i : goal.invariant-loop-i
invariant-loop-i l = record {
  same : (ix : List Kinds) (e : List KeyedAttribute) → list_all (holds ix e) l.plans.items ≡ list_all (holds ix e)
      l.fn.plans.items;
  within : l.first ≤ length l.plans.items;
}
