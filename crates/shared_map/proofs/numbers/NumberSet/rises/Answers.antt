-- What search doesn't prove of `rises`: what it returns, by lemmas of `Ahead`.
use Rattle.std.proofs.Common.{sym, subst, ap, ◌∙◌}
use Rattle.shared_map.specs.Sets.{numbers_in, IsRising}
use Rattle.shared_map.proofs.Ahead.{keys_rise}
use Rattle.shared_map.proofs.numbers.NumberSet.rises.Goals as goal

pub returns-in-Many : goal.returns-in-Many
returns-in-Many c =
    let whole = sym c.self.view_is ∙ ap numbers_in c.in-Many.is in
    subst IsRising (sym whole) (keys_rise c.in-Many.map c.rises.ensures)
