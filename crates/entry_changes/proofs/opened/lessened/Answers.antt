-- What search doesn't prove of `lessened`: the invariant, the clause `values` and the clause `octets`, by lemmas of
-- `Indexing`.
use Rattle.std.proofs.Common.{Bool, ap, sym, subst, ◌∙◌}
use Rattle.entry_changes.specs.Opening.{since, octets_by, held_in}
use Rattle.entry_changes.specs.private.Opening.{Fits}
use Rattle.entry_changes.proofs.Indexing.{less_values, fits_less}
use Rattle.entry_changes.proofs.opened.lessened.Goals as goal

pub invariant_of-result : goal.invariant_of-result
invariant_of-result c =
    subst (λ (b : Bool). Fits b (since c.let_go.new.index.held.entries) c.args.attribute)
    (sym c.in_ok-let_go.ensures.by_keys)
    (fits_less c.args.index.by_keys (since c.args.index.held.entries) (since c.let_go.new.index.held.entries)
    c.args.attribute (octets_by c.args.index.by_keys c.args.given.now) c.requires.fits c.in_ok-let_go.ensures.held)

pub returns-clause-values : goal.returns-clause-values
returns-clause-values c =
    ap (λ (b : Bool). (held_in b (since c.let_go.new.index.held.entries) c.args.attribute).values)
    c.in_ok-let_go.ensures.by_keys
    ∙ (less_values c.args.index.by_keys (since c.args.index.held.entries) (since c.let_go.new.index.held.entries)
    c.args.attribute (octets_by c.args.index.by_keys c.args.given.now) c.requires.fits
    c.in_ok-let_go.ensures.held).0

pub returns-clause-octets : goal.returns-clause-octets
returns-clause-octets c =
    ap (λ (b : Bool). octets_by c.args.index.by_keys (held_in b (since c.let_go.new.index.held.entries)
    c.args.attribute)) c.in_ok-let_go.ensures.by_keys
    ∙ (less_values c.args.index.by_keys (since c.args.index.held.entries) (since c.let_go.new.index.held.entries)
    c.args.attribute (octets_by c.args.index.by_keys c.args.given.now) c.requires.fits
    c.in_ok-let_go.ensures.held).1
