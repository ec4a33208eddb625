-- What search doesn't prove of `superiors`: `loop-init`, what it returns and `loop-preserved`, by lemmas of `Steps`.
use Rattle.std.proofs.Common.{ℕ, List, ◌++◌, ◌-◌, length, ap, sym, ◌∙◌, arith}
use Rattle.ldap_schema.specs.Schema.{superiors}
use Rattle.ldap_schema.proofs.Steps.{step_up, no_way_up, no_more, without_rest}
use Rattle.ldap_schema.proofs.tables.superiors.Goals as goal

pub loop-init : goal.loop-init
loop-init c = ap (λ (x : List ℕ). x ++ superiors (length c.args.types.now - 0) c.args.types.now c.args.type_id)
    c.new-found.ensures.items ∙ ap (λ n. superiors n c.args.types.now c.args.type_id) (omega arith)

pub returns-in-None : goal.returns-in-None
returns-in-None c = without_rest c.loop.found.items _ _ (no_way_up (length c.args.types.now - c.loop.counter)
    c.args.types.now c.loop.current (sym c.superior.ensures ∙ c.in-None.is)) c.loop.invariant

pub loop-preserved : goal.loop-preserved
loop-preserved c =
    step_up (length c.args.types.now) c.loop.counter c.args.types.now c.loop.current c.in-Some.above
    c.loop.found.items c.push.new.self.items _ c.loop-test.true (sym c.superior.ensures ∙ c.in-Some.is)
    c.in_ok-push-in-Some.ensures.items c.loop.invariant

pub returns : goal.returns
returns c = without_rest c.loop.found.items _ _ (no_more (length c.args.types.now - c.loop.counter) c.args.types.now
    c.loop.current (omega (arith, c.loop-test.false))) c.loop.invariant
