-- What search doesn't prove of `beginnings_agree`: what it returns, by lemmas of `CommonBeginnings`.
use Rattle.vr_world.proofs.CommonBeginnings.{beginnings_agree}
use Rattle.vr_world.proofs.beginnings.beginnings_agree.Goals as goal

pub returns : goal.returns
returns g c = beginnings_agree
