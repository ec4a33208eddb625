-- What search doesn't prove of `add`: the invariant and the clause `ok`, by lemmas of `Sought`.
use Rattle.std.proofs.Common.{ℕ, List, rules, ap, sym, subst, ◌∙◌}
use Rattle.std.proofs.lemmas.Fn.{always_returns_same}
use Rattle.std.specs.Str.{bytes_eq}
use Rattle.ldap_schema.specs.private.NameOrder.{order, number_at, kept_or, IsInOrder}
use Rattle.ldap_schema.proofs.Sought.{Entries, gap_of, number_found, put_there, kept_there, in_order_put}
use Rattle.ldap_schema.proofs.name_table.NameTable.add.Goals as goal

pub invariant_of-self-in-Err : goal.invariant_of-self-in-Err
invariant_of-self-in-Err c =
    let by = c.in-Err.ensures.position (λ (e : List ℕ × ℕ). order e.0 c.args.name.items)
    (always_returns_same _ _ _ (λ a r g called. search rules)) in
    let gap = gap_of c.self.inside.entries.items _ c.as_slice.ensures.value c.self.invariant c.args.name.items
    c.in-Err.place c.in-Err.ensures.bound by in
    subst IsInOrder (sym c.in_ok-insert-in-Err.ensures.items) (in_order_put c.self.inside.entries.items c.in-Err.place
    (c.args.name.items, c.args.number) c.self.invariant gap)

pub returns-in-Ok-clause-ok : goal.returns-in-Ok-clause-ok
returns-in-Ok-clause-ok c q =
    let by = c.in-Ok.ensures.position (λ (e : List ℕ × ℕ). order e.0 c.args.name.items)
    (always_returns_same _ _ _ (λ a r g called. search rules)) in
    let at = number_found c.self.inside.entries.items _ c.as_slice.ensures.value c.self.invariant c.args.name.items
    c.in-Ok.field-0 (c.args.name.items, 0) c.in-Ok.ensures.bound by in
    kept_there c.args.self.now c.args.name.items c.args.number _
    (ap (λ (es : Entries). number_at es c.args.name.items) (sym c.self.view_is) ∙ at) q

pub returns-in_ok-insert-in-Err-clause-ok : goal.returns-in_ok-insert-in-Err-clause-ok
returns-in_ok-insert-in-Err-clause-ok c q =
    let by = c.in-Err.ensures.position (λ (e : List ℕ × ℕ). order e.0 c.args.name.items)
    (always_returns_same _ _ _ (λ a r g called. search rules)) in
    let gap = gap_of c.self.inside.entries.items _ c.as_slice.ensures.value c.self.invariant c.args.name.items
    c.in-Err.place c.in-Err.ensures.bound by in
    ap (λ (es : Entries). number_at es q) c.in_ok-insert-in-Err.ensures.items
    ∙ put_there c.self.inside.entries.items c.in-Err.place c.args.name.items c.args.number gap q
    ∙ ap (λ (es : Entries). kept_or (number_at es q) (bytes_eq q c.args.name.items) c.args.number) c.self.view_is
