-- What search doesn't prove of `in_row`: what it returns, step by step.
use Rattle.std.proofs.Common.{rules, ◌≡◌, ℕ, ◌+◌, ◌-◌, ap, subst, ◌∙◌, arith}
use Rattle.std.specs.Ordering.{nat_cmp}
use Rattle.std.specs.Map.{lookup}
use Rattle.std.specs.BTreeMap.{is_at}
use Rattle.std.specs.Prelude.{Option, min}
use Rattle.std.proofs.lemmas.Option.{slice_get_read}
use Rattle.dir_tree.specs.private.Visits.{HasRow}
use Rattle.dir_tree.specs.declared.visit.Row.{Row}
use Rattle.dir_tree.proofs.visit.in_row.Goals as goal

pub returns-else-number-row-2 : goal.returns-else-number-row-2
returns-else-number-row-2 c es h =
    subst (λ (o : Option Row). HasRow o es) c.in-Some.is h (c.args.number - c.in-Some.row.from)
    c.index-found-number.result
    (slice_get_read c.in-Some.row.found 16 (c.args.number - c.in-Some.row.from) c.index-found-number.result
    (search rules) c.if-number-row-2.false c.index-found-number.is)
    c.if-number-row-2.false
    ∙ ap (λ (n : ℕ). lookup (is_at (nat_cmp n)) es) reached
  where
    reached : min (c.in-Some.row.from + (c.args.number - c.in-Some.row.from)) 18446744073709551615 ≡ c.args.number
    reached = Prim.grind (arith)
