-- What search doesn't prove of `note_in_queue`: the clause `gives`. The token that the place has is the session's own.
use Rattle.std.proofs.Common.{◌≡◌, false, not, Option, Some, sym, ap, subst, ◌∙◌}
use Rattle.std.proofs.lemmas.Bool.{eqb-true, not-false}
use Rattle.std.proofs.Math.Dec.{eqb}
use Rattle.std.specs.Option.{option_eq, option_map}
use Rattle.session_table.specs.Tabling.{flat}
use Rattle.session_table.specs.Tokens.{token_of}
use Rattle.session_table.specs.declared.pooled.PooledSession.{PooledSession}
use Rattle.session_table.proofs.table.Table.note_in_queue.Goals as goal

pub returns-in-Some-clause-gives : goal.returns-in-Some-clause-gives
returns-in-Some-clause-gives c = λ less same.
    let place = c.place_in-place.result in
    let notes = c.in-Some.ensures.some in
    let is : c.token_at.result ≡ Some (token_of place notes.before.number) =
    c.token_at.ensures
    ∙ ap (λ (o : Option (Option PooledSession)). option_map (λ (g : PooledSession). token_of place g.number) (flat o))
    notes.home.here in
    let equal : not (eqb (token_of place notes.before.number) c.args.token) ≡ false =
    sym (subst (λ o. false ≡ not (option_eq eqb o (Some c.args.token))) is c.if-ne.ensures) in
    record {
      place = place;
      notice = c.match-state.notice;
      notes = notes;
      own = eqb-true (token_of place notes.before.number) c.args.token (not-false _ equal);
    }
