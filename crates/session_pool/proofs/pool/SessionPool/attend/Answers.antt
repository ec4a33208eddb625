-- What search doesn't prove of `attend`: `loop-sitting-init` and `loop-sitting-preserved`, by lemmas of `Attended` and
-- `Rows`.
use Rattle.client_link.specs.session_handler.View.{config_view}
use Rattle.session_pool.proofs.Attended.{same_then}
use Rattle.session_pool.proofs.Rows.{one_sitting, one_more_sitting}
use Rattle.session_pool.proofs.pool.SessionPool.attend.Goals as goal

pub loop-sitting-init : goal.loop-sitting-init
loop-sitting-init g c = record {
  same = c.sit_once-then.ensures.same;
  sittings = one_sitting _ _ _ _ _ _ c.sit_once-then.ensures.sitting;
  becomes = c.sit_once-then.ensures.becomes;
}

pub loop-sitting-preserved : goal.loop-sitting-preserved
loop-sitting-preserved g c = record {
  same = same_then _ _ _ (same_then _ _ _ c.loop-sitting.invariant.same c.hear_on.ensures.same)
      c.sit_once-then-in-Octets.ensures.same;
  sittings = one_more_sitting g.D.Directory.allows (config_view c.args.self.now.config) c.args.pooled.now
      c.loop-sitting.pooled c.hear_on.new.pooled
      c.args.directory.now c.loop-sitting.directory c.loop-sitting.then c.hear_on.new.buffer c.loop-sitting._sitting
      c.loop-sitting.invariant.sittings c.loop-sitting.invariant.becomes c.in-Listens.is
      c.sit_once-then-in-Octets.new.pooled c.sit_once-then-in-Octets.new.directory
      c.loop-sitting.invariant.same c.hear_on.ensures.same c.in-Octets.ensures.heard
      c.sit_once-then-in-Octets.ensures.sitting;
  becomes = c.sit_once-then-in-Octets.ensures.becomes;
}
