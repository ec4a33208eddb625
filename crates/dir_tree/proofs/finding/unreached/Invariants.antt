use Rattle.std.proofs.Common.{◌≡◌, ◌+◌, drop, length}
use Rattle.dir_entry.specs.ldap_dn.Names.{rdns}
use Rattle.dir_tree.specs.private.Superiors.{unreached, step_at}
use Rattle.dir_tree.proofs.finding.unreached.Given as goal

abbrev pub invariant-loop-rdn : goal.invariant-loop-rdn
invariant-loop-rdn l = record {
  same : unreached (step_at l.levels) (rdns (drop l.rdn-index l.path)) l.at ≡ unreached (step_at l.levels)
      (rdns l.path) l.fn.from;
  count : l.left + l.rdn-index ≡ length l.path;
}
