-- What search doesn't prove of `filled_is_sent`: what it returns, by lemmas of `Filled`.
use Rattle.vr_short.proofs.Filled.{refilled}
use Rattle.vr_short.proofs.laws.filled_is_sent.Goals as goal

pub returns : goal.returns
returns g c = λ n size es m r x h. refilled x r.log m.body (c.beginnings_agree.ensures n size es m h.sent h.index r
    h.up x h.sender h.there h.receiver)
