use Rattle.std.proofs.Common.{sym, subst}
use Rattle.dir_node.specs.state_machine.Executing.{ExecutedValue}
use Rattle.dir_seats.specs.Lists.{IsBeginning, with_records}
use Rattle.node_gate.proofs.Given.{given_begins}
use Rattle.node_gate.proofs.published.PublishedNode.show.Goals as goal

-- what was given before begins what is executed
pub append-requires : goal.append-requires
append-requires g c =
    let held = c.args.self.now in record {
      follows =
          subst (λ (v : ExecutedValue). IsBeginning (with_records held.publisher.published held.publisher.waiting) v)
          (sym c.executed.ensures)
          (given_begins held.node.executed held.publisher held.shows);
    }
