use Rattle.std.proofs.Common.{⊎_elim, rules}
use Rattle.peer_link.proofs.meeting.greeting_heading.Goals as goal

-- no greeting of any cluster begins so, of either version
pub returns : goal.returns
returns c = λ other sender h. ⊎_elim (c.begins_greeting.ensures.own (search rules) other sender)
    (c.begins_greeting.ensures.earlier (search rules) other sender) h
