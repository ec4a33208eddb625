-- What search doesn't prove of `extended`: the invariant, the clause `values` and the clause `octets`, by lemmas of
-- `Indexing`.
use Rattle.std.proofs.Common.{Bool, ap, sym, subst, ◌∙◌}
use Rattle.entry_changes.specs.Opening.{since, octets_by, held_in}
use Rattle.entry_changes.specs.private.Opening.{Fits}
use Rattle.entry_changes.proofs.Indexing.{more_values, fits_more}
use Rattle.entry_changes.proofs.opened.extended.Goals as goal

pub invariant_of-result : goal.invariant_of-result
invariant_of-result c =
    subst (λ (b : Bool). Fits b (since c.hold.new.index.held.entries) c.in_ok-attribute.attribute)
    (sym c.in_ok-hold.ensures.by_keys)
    (fits_more c.args.index.by_keys (since c.args.index.held.entries) (since c.hold.new.index.held.entries)
    c.args.attribute c.in_ok-attribute.attribute c.args.given c.len.result c.requires.fits
    c.requires.long
    c.len.ensures c.in_ok-hold.ensures.held c.requires.fresh c.in_ok-attribute.ensures.values
    c.in_ok-attribute.ensures.keys)

pub returns-clause-values : goal.returns-clause-values
returns-clause-values c =
    ap (λ (b : Bool). (held_in b (since c.hold.new.index.held.entries) c.in_ok-attribute.attribute).values)
    c.in_ok-hold.ensures.by_keys
    ∙ (more_values c.args.index.by_keys (since c.args.index.held.entries) (since c.hold.new.index.held.entries)
    c.args.attribute c.in_ok-attribute.attribute c.args.given c.len.result c.requires.fits
    c.requires.long
    c.len.ensures c.in_ok-hold.ensures.held c.requires.fresh c.in_ok-attribute.ensures.values
    c.in_ok-attribute.ensures.keys).0

pub returns-clause-octets : goal.returns-clause-octets
returns-clause-octets c =
    ap (λ (b : Bool). octets_by c.args.index.by_keys (held_in b (since c.hold.new.index.held.entries)
    c.in_ok-attribute.attribute)) c.in_ok-hold.ensures.by_keys
    ∙ (more_values c.args.index.by_keys (since c.args.index.held.entries) (since c.hold.new.index.held.entries)
    c.args.attribute c.in_ok-attribute.attribute c.args.given c.len.result c.requires.fits
    c.requires.long
    c.len.ensures c.in_ok-hold.ensures.held c.requires.fresh c.in_ok-attribute.ensures.values
    c.in_ok-attribute.ensures.keys).1
