-- What search doesn't prove of `has`: the invariant, the clause `found` and the clause `same`, by lemmas of `Rising`
-- and `Forward`.
use Rattle.std.proofs.Common.{◌∙◌, sym, ap, subst}
use Rattle.std.specs.Prelude.{nat_le}
use Rattle.dir_index.specs.Postings.{has_number, IsRising}
use Rattle.search_plans.proofs.Rising.{filter_rising}
use Rattle.search_plans.proofs.Forward.{forward_same, head_tells}
use Rattle.search_plans.proofs.probing.Probe.has.Goals as goal

pub invariant_of-self : goal.invariant_of-self
invariant_of-self c = subst IsRising (sym c.seek.ensures) (filter_rising (nat_le c.args.number) c.self.inside.walk
    c.self.invariant)

pub returns-clause-found : goal.returns-clause-found
returns-clause-found c = head_tells c.args.number c.self.inside.walk c.seek.new.self c.peek.result c.eq.result
    c.self.invariant c.seek.ensures c.peek.ensures c.eq.ensures ∙ ap (has_number c.args.number) c.self.view_is

pub returns-clause-same : goal.returns-clause-same
returns-clause-same c n le = ap (has_number n) c.seek.ensures ∙ forward_same c.args.number c.self.inside.walk n le
    ∙ ap (has_number n) c.self.view_is
