-- Each search of each schedule.
use Rattle.std.proofs.Common.{◌≡◌, ℕ, nat_lt, false, cond, List, [], ◌∷◌, ◌++◌, take, Option, Some, None, refl, sym, ap, ◌∙◌, subst, lt-ltb, le-ltb}
use Rattle.std.proofs.lemmas.List.{length-take-le}
use Rattle.vr_state.proofs.Laws.{prefix_trans}
use Rattle.vr_state.specs.Lists.{IsPrefix}
use Rattle.vr_state.specs.State.{State, is_recovering}
use Rattle.vr_world.specs.Committed.{committed}
use Rattle.vr_world.specs.Law.{IsSize}
use Rattle.vr_world.specs.World.{World, after, start}
use Rattle.vr_world.specs.declared.events.WorldEvent.{WorldEvent}
use Rattle.vr_world.proofs.Laws.{committed_grows, commits_are_held, replicas_agree}
use Rattle.dir_search.specs.ldap_msg.Messages.{SearchRequestValue}
use Rattle.dir_search.specs.ldap_msg.View.{search_view}
use Rattle.state_machine.specs.Executing.{ops_of}
use Rattle.state_machine.specs.dir_store.ldap_schema.Schema.{SchemaModel}
use Rattle.state_machine.specs.dir_store.ldap_dn.Names.{RdnModel}
use Rattle.state_machine.specs.dir_store.ldap_op.Values.{OpValue}
use Rattle.state_machine.specs.dir_store.Updates.{directory_of}
use Rattle.dir_search.specs.Answer.{answer}
use Rattle.dir_lab.proofs.Exact.{success_is_exact}
use Rattle.dir_lab.specs.Headline.{committed_by, IsAway, IsAnswerAt, IsTold, SearchesAreTold}
use Rattle.dir_lab.specs.Schedule.{happenings, executed, executions, found, shown_by, shown_from}
use Rattle.dir_lab.specs.Shown.{Shown, Unavailable, NotYet, Answered}
use Rattle.dir_lab.specs.declared.events.LabEvent.{LabEvent}
use Rattle.dir_lab.specs.declared.events.LabEvent.TheVariants.{Search}
use Rattle.dir_lab.proofs.Schedules.{happenings-append, shown-append}

-- What is committed in the middle begins what is committed at the end.
pub committed_on : (n : ℕ) → IsSize n → (es more : List LabEvent) → IsPrefix (committed_by n es)
    (committed_by n (es ++ more))
committed_on n size es more =
    subst (λ (l : List (WorldEvent OpValue)). IsPrefix (committed_by n es) (committed n (after n l).messages))
    (sym (happenings-append es more))
    (committed_grows n size (happenings es) (happenings more))

module _ (s : SchemaModel) (root : List RdnModel) (n : ℕ) (size : IsSize n) (es more : List LabEvent) (i named : ℕ)
    (q : SearchRequestValue) where
  -- the world at the search
  abbrev here : World OpValue
  here = after n (happenings es)

  -- what is shown of a replica in a state
  abbrev told : Option (State OpValue) → Shown
  told o = found s root (executed o) named q o

  -- one that is down or recovers
  away : (o : Option (State OpValue)) → IsAway o → told o ≡ Unavailable
  away None h = refl
  away (Some r) h = ap (λ b. cond b Unavailable (cond (nat_lt r.commit_number named) (NotYet r.commit_number)
      (Answered r.commit_number (answer (directory_of s root (ops_of (take r.commit_number r.log))) q)))) h

  -- one that does neither
  up : (r : State OpValue) → is_recovering r.status ≡ false
      → told (Some r) ≡ cond (nat_lt r.commit_number named) (NotYet r.commit_number)
      (Answered r.commit_number (answer (directory_of s root (ops_of (take r.commit_number r.log))) q))
  up r h = ap (λ b. cond b Unavailable (cond (nat_lt r.commit_number named) (NotYet r.commit_number)
      (Answered r.commit_number (answer (directory_of s root (ops_of (take r.commit_number r.log))) q)))) h

  -- what it has committed begins what is committed at the end
  begins : (r : State OpValue) → here.replicas i ≡ Some r → IsPrefix (take r.commit_number r.log)
      (committed_by n (es ++ more))
  begins r is = prefix_trans (replicas_agree n size (happenings es) i r is) (committed_on n size es more)

  -- its answer
  answers : (r : State OpValue) → here.replicas i ≡ Some r → IsAnswerAt s root (committed_by n (es ++ more))
      r.commit_number q (answer (directory_of s root (ops_of (take r.commit_number r.log))) q)
  answers r is = record {
    beginning = take r.commit_number r.log;
    begins = begins r is;
    counts = length-take-le r.commit_number r.log (commits_are_held n size (happenings es) i r is);
    answers = refl;
    exact = success_is_exact s root (ops_of (take r.commit_number r.log)) q;
  }

  -- What is told.
  is_told : IsTold s root (committed_by n (es ++ more)) (here.replicas i) named q (told (here.replicas i))
  is_told = record {
    unavailable = λ h. away (here.replicas i) h;
    not_yet = λ r lt. ap told r.up ∙ up r.replica r.status
        ∙ ap (λ b. cond b (NotYet r.replica.commit_number) (Answered r.replica.commit_number
        (answer (directory_of s root (ops_of (take r.replica.commit_number r.replica.log))) q)))
        (lt-ltb r.replica.commit_number named lt);
    answered = λ r le. (
      answer (directory_of s root (ops_of (take r.replica.commit_number r.replica.log))) q,
      ap told r.up ∙ up r.replica r.status
          ∙ ap (λ b. cond b (NotYet r.replica.commit_number) (Answered r.replica.commit_number
          (answer (directory_of s root (ops_of (take r.replica.commit_number r.replica.log))) q)))
          (le-ltb r.replica.commit_number named le),
      answers r.replica r.up,
    );
  }

-- Each search is told of.
pub searches_are_told : (s : SchemaModel) (root : List RdnModel) (n : ℕ) (es : List LabEvent) (shown : List Shown) →
    (IsSize n → shown ≡ shown_by s root n es) → SearchesAreTold s root n es shown
searches_are_told s root n es shown h size before behind i named q cut within = record {
  one = found s root (executions w i) named (search_view q) (w.replicas i);
  rest = shown_from s root n behind w;
  split = h size ∙ ap (shown_by s root n) cut ∙ shown-append s root n before (Search i named q ∷ behind) (start n)
      ∙ ap (λ b. shown_by s root n before ++ (cond b (found s root (executions w i) named (search_view q)
      (w.replicas i) ∷ []) [] ++ shown_from s root n behind w)) (lt-ltb i n within);
  is = subst (λ (l : List LabEvent). IsTold s root (committed_by n l) (w.replicas i) named (search_view q)
      (found s root (executions w i) named (search_view q) (w.replicas i))) (sym cut)
      (is_told s root n size before (Search i named q ∷ behind) i named (search_view q));
}
  where
    w : World OpValue
    w = after n (happenings before)
