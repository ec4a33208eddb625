-- What search doesn't prove of `start_again`: the clause `nothing` and the clause `replica`, step by step.
use Rattle.std.proofs.Common.{◌≡◌, Option, Some, None, refl}
use Rattle.dir_node.specs.NodeState.{nothing_executed}
use Rattle.node_gate.specs.private.Identities.{IsReplicaOf}
use Rattle.node_gate.proofs.opening.start_again.Goals as goal

pub returns-in-Ok-clause-nothing : goal.returns-in-Ok-clause-nothing
returns-in-Ok-clause-nothing g c =
    elim c.args.journal as (λ (j : Option g.row.J.Denot). c.args.journal ≡ j → c.in-Ok.made.0.executed ≡
    nothing_executed c.args.config) [
      | None ↦ λ e. (c.in-Ok.ensures.made e).executed_is
      | Some j ↦ λ e. (c.in-Ok.ensures.restarted j
          e).made.executed_is
    ] refl

pub returns-in-Ok-clause-replica : goal.returns-in-Ok-clause-replica
returns-in-Ok-clause-replica g c =
    elim c.args.journal as (λ (j : Option g.row.J.Denot). c.args.journal ≡ j → IsReplicaOf c.args.config
    c.in-Ok.made.0) [
      | None ↦ λ e. let m = c.in-Ok.ensures.made e in record {
        index = m.index_is;
        count = m.count_is;
        cluster =
            m.cluster_is;
      }
      | Some j ↦ λ e. let m = (c.in-Ok.ensures.restarted j e).made in record {
        index = m.index_is;
        count =
            m.count_is;
        cluster = m.cluster_is;
      }
    ] refl
