-- What search doesn't prove of `find`: what it returns, by lemmas of `Sought`.
use Rattle.std.proofs.Common.{ℕ, List, Some, rules, ap, sym, ◌∙◌}
use Rattle.std.proofs.lemmas.Fn.{always_returns_same}
use Rattle.ldap_schema.specs.private.NameOrder.{order, number_at}
use Rattle.ldap_schema.proofs.Sought.{Entries, gap_of, number_found, number_missing}
use Rattle.ldap_schema.proofs.name_table.NameTable.find.Goals as goal

pub returns-in-Ok : goal.returns-in-Ok
returns-in-Ok c =
    let by = c.in-Ok.ensures.position (λ (e : List ℕ × ℕ). order e.0 c.args.name.now)
    (always_returns_same _ _ _ (λ a r g called. search rules)) in
    ap Some (c.number.ensures ∙ ap (λ (e : List ℕ × ℕ). e.1) c.index.ensures)
    ∙ sym (number_found c.self.inside.entries.items _ c.as_slice.ensures.value c.self.invariant c.args.name.now
    c.in-Ok.place c.index.result.now c.in-Ok.ensures.bound by)
    ∙ ap (λ (es : Entries). number_at es c.args.name.now) c.self.view_is

pub returns-in-Err : goal.returns-in-Err
returns-in-Err c =
    let by = c.in-Err.ensures.position (λ (e : List ℕ × ℕ). order e.0 c.args.name.now)
    (always_returns_same _ _ _ (λ a r g called. search rules)) in
    number_missing c.self.inside.entries.items c.args.name.now c.in-Err.field-0 (gap_of c.self.inside.entries.items _
    c.as_slice.ensures.value c.self.invariant c.args.name.now c.in-Err.field-0 c.in-Err.ensures.bound by)
    ∙ ap (λ (es : Entries). number_at es c.args.name.now) c.self.view_is
