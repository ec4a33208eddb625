-- What search doesn't prove of `read_is_sent`: what it returns, step by step.
use Rattle.std.proofs.Common.{◌≡◌, subst}
use Rattle.vr_short.specs.Short.{filled, shortened}
use Rattle.vr_short.proofs.laws.read_is_sent.Goals as goal

pub returns : goal.returns
returns c = λ n size es m r x h cluster sender other speaker read octets f g.
    subst (λ k. filled x r.log k ≡ m.body) (c.one_frame.ensures octets cluster sender (shortened x m.body) other
    speaker read f g).2 (c.filled_is_sent.ensures n size es m r x h)
