-- What search doesn't prove of `notes_are_paired`: what it returns, by lemmas of `Paired`.
use Rattle.vr_short.proofs.Paired.{pairs}
use Rattle.vr_short.proofs.laws.notes_are_paired.Goals as goal

pub returns : goal.returns
returns g c = pairs
