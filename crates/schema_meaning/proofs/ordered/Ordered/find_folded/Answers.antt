-- What search doesn't prove of `find_folded`: what it returns, by lemmas of `Halved`.
use Rattle.std.proofs.Common.{ℕ, Some, Vec, Global, rules, ap, sym, ◌∙◌, map}
use Rattle.std.proofs.lemmas.Fn.{always_returns_same}
use Rattle.std.specs.Char.{to_ascii_lowercase}
use Rattle.schema_meaning.specs.private.Octets.{number_at, order}
use Rattle.schema_meaning.proofs.Halved.{Entries, number_found, number_missing}
use Rattle.schema_meaning.proofs.ordered.Ordered.find_folded.Goals as goal

pub returns-in-Ok : goal.returns-in-Ok
returns-in-Ok c =
    let by = c.in-Ok.ensures.position (λ (e : Vec ℕ Global × ℕ). order e.0.items
    (map to_ascii_lowercase c.args.word.now)) (always_returns_same _ _ _ (λ a r g called. search rules)) in
    ap Some (ap (λ (e : Vec ℕ Global × ℕ). e.1) c.index.ensures)
    ∙ sym (number_found c.self.inside.entries.items _ c.as_slice.ensures.value c.self.invariant
    (map to_ascii_lowercase c.args.word.now) c.in-Ok.place c.index.result.now c.in-Ok.ensures.bound by)
    ∙ ap (λ (es : Entries). number_at es (map to_ascii_lowercase c.args.word.now)) c.self.view_is

pub returns-in-Err : goal.returns-in-Err
returns-in-Err c =
    let by = c.in-Err.ensures.position (λ (e : Vec ℕ Global × ℕ). order e.0.items
    (map to_ascii_lowercase c.args.word.now)) (always_returns_same _ _ _ (λ a r g called. search rules)) in
    number_missing c.self.inside.entries.items _ c.as_slice.ensures.value c.self.invariant
    (map to_ascii_lowercase c.args.word.now) c.in-Err.field-0 c.in-Err.ensures.bound by
    ∙ ap (λ (es : Entries). number_at es (map to_ascii_lowercase c.args.word.now)) c.self.view_is
