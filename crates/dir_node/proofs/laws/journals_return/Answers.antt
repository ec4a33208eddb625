-- What search doesn't prove of `journals_return`: what it returns, by lemmas of `Returning`.
use Rattle.dir_node.proofs.Returning.{journals_back}
use Rattle.dir_node.proofs.laws.journals_return.Goals as goal

pub returns : goal.returns
returns g c = journals_back c.one_is_told.ensures g.row.D.Denot g.J.Device.may_leave
