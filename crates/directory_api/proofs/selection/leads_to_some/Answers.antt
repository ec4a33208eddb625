-- What search doesn't prove of `leads_to_some`: `loop-init`, what it returns and `loop-preserved`, by lemmas of
-- `Resolved`.
use Rattle.std.proofs.Common.{ℕ, ◌-◌, ◌<◌, length, ap, sym, ◌∙◌, subst, arith}
use Rattle.std.specs.List.{list_any}
use Rattle.dir_tree.specs.ldap_schema.Schema.{superiors}
use Rattle.directory_api.specs.private.Resolved.{is_held}
use Rattle.directory_api.proofs.Resolved.{ends_above, found_above, passed_above, spent_above}
use Rattle.directory_api.proofs.selection.leads_to_some.Goals as goal

pub loop-init : goal.loop-init
loop-init c = ap (λ (n : ℕ). list_any (is_held c.args.types.now) (superiors n c.args.schema.now.types c.args.type_id))
    (omega arith)

pub returns-in-None : goal.returns-in-None
returns-in-None c = sym (c.loop.invariant ∙ ends_above (is_held c.args.types.now) c.args.schema.now.types
    (length c.args.schema.now.types - c.loop.counter) c.loop.current (sym c.superior.ensures ∙ c.in-None.is))

pub returns-then-has_number : goal.returns-then-has_number
returns-then-has_number c =
    sym (c.loop.invariant ∙ found_above (is_held c.args.types.now) c.args.schema.now.types
    (length c.args.schema.now.types) c.loop.counter c.loop.current c.in-Some.above
    (subst (λ (n : ℕ). c.loop.counter < n) c.count_of_types-end.ensures c.loop-test.true) (sym c.superior.ensures
    ∙ c.in-Some.is) (sym c.has_number.ensures ∙ c.if-has_number.true))

pub loop-preserved : goal.loop-preserved
loop-preserved c =
    c.loop.invariant ∙ passed_above (is_held c.args.types.now) c.args.schema.now.types
    (length c.args.schema.now.types) c.loop.counter c.loop.current c.in-Some.above
    (subst (λ (n : ℕ). c.loop.counter < n) c.count_of_types-end.ensures c.loop-test.true) (sym c.superior.ensures
    ∙ c.in-Some.is) (sym c.has_number.ensures ∙ c.if-has_number.false)

pub returns : goal.returns
returns c = sym (c.loop.invariant ∙ spent_above (is_held c.args.types.now) c.args.schema.now.types
    (length c.args.schema.now.types - c.loop.counter) c.loop.current
    (omega (arith, c.loop-test.false, c.count_of_types-end.ensures)))
