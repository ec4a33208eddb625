-- What search doesn't prove of `said_by_lines`: the clause `refused`, step by step.
use Rattle.std.proofs.Common.{◌≡◌, ℕ, ◌+◌, ◌<◌, Bor, length, get_or, List, [], Result, map, drop, sym, ap, ◌∙◌, subst}
use Rattle.std.proofs.lemmas.Result.{err_from_is_err_and}
use Rattle.std.proofs.lemmas.List.{at_drop_more}
use Rattle.dir_entry.specs.ldap_schema.Schema.{SchemaModel}
use Rattle.index_choice.specs.declared.line.IndexLine.{IndexLine}
use Rattle.index_choice.specs.declared.error.IndexError.{IndexError}
use Rattle.index_choice.specs.declared.error.IndexError.TheVariants.{BadDescription, UnknownName, IndexWithoutRule, NoMemory}
use Rattle.index_choice.specs.Texts.{after, lines_from, line_said}
use Rattle.index_choice.specs.private.Texts.{IsBadLine}
use Rattle.index_choice.proofs.reading.said_by_lines.Goals as goal

bad_after : (front : List IndexLine) (r : Result (List IndexLine) ℕ) (e : IndexError) → IsBadLine r e →
    IsBadLine (after front r) e
bad_after front r (BadDescription line) h = ap (after front) h
bad_after front r (UnknownName line) h = absurd h
bad_after front r (IndexWithoutRule line) h = absurd h
bad_after front r NoMemory h = tt

bad_line : (s : SchemaModel) (said : List IndexLine) (lines : List (Bor (List ℕ))) (i : ℕ) (d : Bor (List ℕ))
    (e : IndexError) → i < length lines
    → after said (lines_from s (i + 1) (map (λ x. x.now) (drop i lines))) ≡ lines_from s 1 (map (λ x. x.now) lines)
    → ((rest : Result (List IndexLine) ℕ) → IsBadLine (line_said s (i + 1) (get_or lines i d).now rest) e) →
    IsBadLine (lines_from s 1 (map (λ x. x.now) lines)) e
bad_line s said lines i d e l same h =
    let rest : Result (List IndexLine) ℕ = lines_from s (i + 1 + 1) (map (λ x. x.now) (drop (i + 1) lines)) in
    let step : after said (lines_from s (i + 1) (map (λ x. x.now) (drop i lines))) ≡
    after said (line_said s (i + 1) (get_or lines i d).now rest) = at_drop_more (λ (xs : List (Bor (List ℕ))).
    after said (lines_from s (i + 1) (map (λ x. x.now) xs))) lines i d l in
    subst (λ (r : Result (List IndexLine) ℕ). IsBadLine r e) (sym step ∙ same)
    (bad_after said (line_said s (i + 1) (get_or lines i d).now rest) e (h rest))

pub returns-in_err-push_line-clause-refused : goal.returns-in_err-push_line-clause-refused
returns-in_err-push_line-clause-refused c =
    let p = err_from_is_err_and c.from_residual.result c.from_residual.ensures.1 in
    rw (p.1, p.2)
    (bad_line c.args.schema.now c.loop-i.said.items c.args.lines.now c.loop-i.i
    (record { ref_ptr = (0, 0); now = [] }) c.in_err-push_line.field-0.0 c.loop-i-test.true c.loop-i.invariant
    c.in_err-push_line.ensures.refused)
