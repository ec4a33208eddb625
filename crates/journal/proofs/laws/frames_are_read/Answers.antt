-- What search doesn't prove of `frames_are_read`: what it returns, by lemmas of `Torn`.
use Rattle.journal.specs.Frames.{frames}
use Rattle.journal.proofs.Torn.{many, frames_first, recorded_is}
use Rattle.journal.proofs.laws.frames_are_read.Goals as goal

pub returns : goal.returns
returns c = λ bs room short. recorded_is bs (frames bs) room
    (record { many = many bs; first = λ most rest le. frames_first bs most rest short le })
