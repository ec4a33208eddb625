-- What search doesn't prove of `is_below`: what it returns, by lemmas of `Keys`.
use Rattle.std.proofs.Common.{sym, ap, ◌∙◌}
use Rattle.std.specs.Ordering.{is_lt}
use Rattle.dir_index.proofs.Keys.{before_lt}
use Rattle.dir_index.proofs.ranges.is_below.Goals as goal

pub returns : goal.returns
returns c = c.is_lt.ensures ∙ ap is_lt c.cmp.ensures ∙ sym (before_lt c.args.octets.now c.args.others.now)
