-- What begins no note of this cluster begins none of another replica.
use Rattle.peer_messages.proofs.senders.Senders.note_of.Goals as goal

pub returns-in-None : goal.returns-in-None
returns-in-None c = λ sender e. absurd (c.in-None.ensures sender e)
