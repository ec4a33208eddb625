use Rattle.std.proofs.Common.{take}
use Rattle.ldap_filter.specs.private.View.{views}
use Rattle.ldap_eval.specs.private.Bound.{AreBoundTo}
use Rattle.ldap_eval.specs.Made.{AreMadeOf}
use Rattle.ldap_eval.proofs.binding.+bind.Given as goal

-- the filters so far, bound
abbrev pub invariant-bind_all-loop-filter : goal.invariant-bind_all-loop-filter
invariant-bind_all-loop-filter l = record {
  value : AreBoundTo l.schema (views (take l.filter-index l.filters)) l.parts.items;
  parts : AreMadeOf l.schema (views (take l.filter-index l.filters)) l.parts.items;
}
