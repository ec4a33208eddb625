-- What search doesn't prove of `reaches`: what it returns, by lemmas of `Order` and `Parts`.
use Rattle.std.proofs.Common.{◌-◌, length, sym, ap, ◌∙◌, arith}
use borrow.Author.Tests.{eqb-false}
use Rattle.std.specs.Ordering.{is_lt}
use Rattle.shared_map.proofs.Order.{not_less}
use Rattle.shared_map.proofs.Parts.{within}
use Rattle.shared_map.proofs.cursor.reaches.Goals as goal

pub returns-in_default-cmp : goal.returns-in_default-cmp
returns-in_default-cmp g c _ before after s =
    within g.met.K.Ord.total c.args.run.now before after c.index-run-0.result (length c.args.run.now - 1)
    c.index-run-run.result c.args.key.now
    (omega (arith, eqb-false (length c.args.run.now) 0 (sym c.if-is_empty.ensures)))
    (ap is_lt (sym c.cmp.ensures) ∙ not_less c.cmp.result c.in_default.not-Less) (λ p. c.in_default-cmp.not-Greater
    (c.cmp-2.ensures ∙ p)) s
