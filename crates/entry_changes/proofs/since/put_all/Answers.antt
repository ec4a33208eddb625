-- What search doesn't prove of `put_all`: `loop-octets-preserved` and the clause `others`, by lemmas of `Reached`.
use Rattle.std.proofs.Common.{ℕ, Bor, List, Some, Vec, Global, ap, ◌∙◌}
use Rattle.std.specs.Str.{bytes_eq}
use Rattle.entry_changes.specs.Opening.{since}
use Rattle.entry_changes.proofs.Reached.{since_more, stays}
use Rattle.entry_changes.proofs.since.put_all.Goals as goal

pub loop-octets-preserved : goal.loop-octets-preserved
loop-octets-preserved c =
    since_more (λ (o : Bor (List ℕ)). o.now) c.args.list.now c.loop-octets.octets-index _ c.in_ok-copied.field-0.items
    (Some c.args.place) (since c.args.held.now.entries) (since c.loop-octets.held.entries)
    (since c.put.new.held.entries)
    c.loop-octets-test.true c.in_ok-copied.ensures c.loop-octets.invariant c.in_ok-put.ensures.ok

pub returns-in_err-copied-clause-others : goal.returns-in_err-copied-clause-others
returns-in_err-copied-clause-others c = λ q none.
    stays (λ (o : Bor (List ℕ)). bytes_eq q o.now) c.args.list.now c.loop-octets.octets-index c.args.place _ _ none
    (c.loop-octets.invariant q)

pub returns-in_err-put-clause-others : goal.returns-in_err-put-clause-others
returns-in_err-put-clause-others c = λ q none.
    ap (λ (l : List (Vec ℕ Global × ℕ)). since l q) c.in_err-put.ensures.err
    ∙ stays (λ (o : Bor (List ℕ)). bytes_eq q o.now) c.args.list.now c.loop-octets.octets-index c.args.place _ _ none
    (c.loop-octets.invariant q)

pub returns-clause-others : goal.returns-clause-others
returns-clause-others c = λ q none.
    stays (λ (o : Bor (List ℕ)). bytes_eq q o.now) c.args.list.now c.loop-octets.octets-index c.args.place _ _ none
    (c.loop-octets.invariant q)
