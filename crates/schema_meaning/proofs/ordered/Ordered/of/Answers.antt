-- What search doesn't prove of `of`: the invariant, by lemmas of `Halved`.
use Rattle.std.proofs.Common.{◌≡◌, rules, sym, subst}
use Rattle.schema_meaning.specs.private.Octets.{IsInOrder}
use Rattle.schema_meaning.proofs.Halved.{in_order_of_keys}
use Rattle.schema_meaning.proofs.ordered.Ordered.of.Goals as goal

pub invariant_of-result : goal.invariant_of-result
invariant_of-result c =
    let e : c.in_ok-entries.entries.items ≡ c.args.numbers.entries = search rules in
    subst IsInOrder (sym e) (in_order_of_keys c.args.numbers.entries c.into_iter.ensures.into_iter_gives.5)
