-- What search doesn't prove of `take_light`: what `put_light` requires and the clause `taken`, by lemmas of `Lightly`.
use Rattle.std.proofs.Common.{◌≡◌, ℕ, List, map, refl, sym, ap, ◌∙◌, subst}
use Rattle.journal.specs.Frames.{recorded}
use Rattle.ldap_op.specs.Values.{OpValue}
use Rattle.vr_state.specs.Outcome.{Outcome}
use Rattle.vr_state.specs.Views.{state}
use Rattle.log_journal.specs.Notes.{Step, Puts}
use Rattle.log_journal.specs.Steps.{notes_since}
use Rattle.log_journal.specs.declared.steps.Before.{Before}
use Rattle.log_journal.specs.private.Light.{IsNotedByOne}
use Rattle.log_journal.proofs.Lightly.{noted_by_one}
use Rattle.log_journal.proofs.taking.take_light.Goals as goal

pub put_light-requires-clause-light : goal.put_light-requires-clause-light
put_light-requires-clause-light c =
    let r = c.args.replica.now in
    subst (λ (b : Before). IsNotedByOne b (state c.step.new.replica) c.args.room) (sym c.of-before.ensures)
    (noted_by_one r.count r.index c.args.room (state r) (state c.step.new.replica) c.args.event c.requires.light
    c.requires.octets (ap (λ (o : Outcome OpValue). o.state) c.in-Ok-step.ensures.step))

pub returns-clause-taken : goal.returns-clause-taken
returns-clause-taken c = record {
  step = c.in-Ok-step.ensures.step;
  base = 0;
  alike = refl;
  puts = subst (λ (b : Before). Puts (map (λ x. Step x) (notes_since b 0 (state c.step.new.replica))) c.args.batch.now
      (recorded c.put_light.new.out.items)) c.of-before.ensures
      (subst (λ (l : List (List ℕ)).
      Puts (map (λ x. Step x) (notes_since c.of-before.result 0 (state c.step.new.replica))) l
      (recorded c.put_light.new.out.items)) (ap recorded c.reserve.ensures.items ∙ c.batch.view_is)
      c.in_ok-put_light.ensures.ok);
}
