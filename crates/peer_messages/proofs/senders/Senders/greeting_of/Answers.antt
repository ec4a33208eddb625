-- What is refused as a greeting begins none of this cluster.
use Rattle.peer_messages.proofs.Heard.{none_refused}
use Rattle.peer_messages.proofs.senders.Senders.greeting_of.Goals as goal

pub returns-in-Err-clause-refused : goal.returns-in-Err-clause-refused
returns-in-Err-clause-refused c = λ h i. absurd (none_refused c.args.self.now.cluster c.args.first c.in-Err.error
    c.in-Err.ensures h i)
