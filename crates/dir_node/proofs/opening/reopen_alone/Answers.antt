-- What search doesn't prove of `reopen_alone`: the clause `kept`, by lemmas of `Views`.
use Rattle.std.proofs.Common.{false, sym, subst}
use Rattle.dir_node.specs.NodeState.{KeepsPair, NodeValue}
use Rattle.dir_node.proofs.Views.{left_pair}
use Rattle.dir_node.proofs.opening.reopen_alone.Goals as goal

pub returns-in-Ok-clause-kept : goal.returns-in-Ok-clause-kept
returns-in-Ok-clause-kept g c =
    subst (λ (n : NodeValue g.row.D.Denot g.row.J.Denot). KeepsPair g.D.Device.may_leave n)
    (sym c.assembled-node.ensures)
    (left_pair g.D.Device.seen g.D.Device.may_leave c.start_again.new.views
    (record { view = c.in-Ok.replica.view_number; restarts = c.in-Ok.restarts; journaled = false })
    c.in-Ok.ensures.held)
