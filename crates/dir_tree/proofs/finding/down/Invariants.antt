use Rattle.std.proofs.Common.{◌≡◌, drop}
use Rattle.dir_entry.specs.ldap_dn.Names.{rdns}
use Rattle.dir_tree.specs.private.Superiors.{down, step_at}
use Rattle.dir_tree.proofs.finding.down.Given as goal

abbrev pub invariant-loop-rdn : goal.invariant-loop-rdn
invariant-loop-rdn l = down (step_at l.levels) (rdns (drop l.rdn-index l.path)) l.at ≡ down (step_at l.levels)
    (rdns l.path) l.fn.from
