-- What a conversation keeps of an answer. Facts on definitions come in and go out; no value of the program is here.
use Rattle.std.proofs.Common.{◌≡◌, ◌==◌, arith, refl, suc, ◌⊎◌, inl, inr, ℕ, List, [], ◌∷◌, ◌++◌, Bool, true, false, None, Some, ap, sym, subst, ◌∙◌, length, append-nil}
use Rattle.std.specs.Bool.{OnTrue}
use Rattle.std.proofs.lemmas.Bool.{eqb-true}
use Rattle.session_handler.specs.directory_api.Talk.{Exchange}
use Rattle.session_handler.specs.Responses.{notice}
use Rattle.session_handler.specs.Session.{ConfigValue}
use Rattle.session_handler.specs.declared.answered.Answered.{Answered as AnsweredValue}
use Rattle.session_handler.specs.declared.answered.Next.{Next}
use Rattle.session_handler.specs.declared.answered.Next.TheVariants.{Disconnected as DisconnectedNext}
use Rattle.session_handler.specs.request_checks.declared.fault.AnswerError.{AnswerError}
use Rattle.session_handler.specs.request_checks.declared.fault.AnswerError.TheVariants.{TooLong, NoMemory as NoMemoryError}
use Rattle.ldap_session.specs.Octets.{joined, octets_of}
use Rattle.ldap_session.specs.private.Octets.{HasGrown}
use Rattle.ldap_session.specs.View.{SessionValue, ConversationValue}
use Rattle.ldap_session.specs.Progress.{TakesNext, IsWritten, AnswersNext, FailsNext, IsIdle}
use Rattle.ldap_session.specs.Conversing.{IsLast, EndsBy, StepsTo}
use Rattle.ldap_session.specs.private.Conversing.{Keeps}
use Rattle.ldap_session.specs.declared.due.Step.{Step}
use Rattle.ldap_session.specs.declared.due.Step.TheVariants.{Awaits, Answered, Ends}
use Rattle.ldap_session.specs.declared.end.SessionEnd.{SessionEnd}
use Rattle.ldap_session.specs.declared.end.SessionEnd.TheVariants.{WriteFailed, NoMemory}
use Rattle.ldap_session.proofs.Progressed.{goes_apart_too}
use Rattle.ldap_session.proofs.Worked.{octets_are, no_front}

-- the same octets are due, and the same comes next
same_last_word : (v w : ConversationValue) (octets due : List ℕ) (next then : Next) (end : SessionEnd) →
    octets ≡ due → next ≡ then → EndsBy v w octets next end → EndsBy v w due then end
same_last_word v w octets due next then end is goes ends = record {
  more = ends.more;
  unsent = ends.unsent;
  last = subst (λ (n : Next). IsLast end n due ends.more) goes (subst (λ (l : List ℕ). IsLast end next l ends.more) is
      ends.last);
  end_is = ends.end_is;
}

other_session : (v w : ConversationValue) (t : SessionValue) (octets : List ℕ) (next : Next) (end : SessionEnd) →
    EndsBy (record v { session = t }) w octets next end → EndsBy v w octets next end
other_session v w t octets next end ends = record {
  more = ends.more;
  unsent = ends.unsent;
  last = ends.last;
  end_is =
      ends.end_is;
}

-- what a message is answered with is kept
pub kept_step : {D T : Type 0} (allows : D → Exchange T → D → Type 0) (c : ConfigValue) (v w : ConversationValue)
    (t : SessionValue) (d e : D) (given : AnsweredValue) (step : Step) →
    AnswersNext allows c v.session t d e given ⊎ (IsIdle v.session t d e × (v.session.framed.fault ≡ None → ⊥)
    × IsWritten given (notice ∷ []) DisconnectedNext) →
    Keeps (record v { session = t }) w (joined given.responses) given.next step → StepsTo allows c v w d e step
kept_step allows c v w t d e given Awaits answers k = absurd k.keeps
kept_step allows c v w t d e given Answered (inl a) k = record {
  reaction = a.reaction;
  takes = subst (λ (x : SessionValue). TakesNext allows c v.session x d e a.reaction) (sym k.session) a.takes;
  state = ap (λ (x : SessionValue). x.state) k.session ∙ a.state;
  goes = sym a.written.goes ∙ k.keeps.0;
  unsent = k.keeps.1 ∙ ap (λ (l : List ℕ). v.unsent ++ l) (octets_are given a.reaction.responses a.reaction.next
      a.written);
  end_is = k.keeps.2;
}
kept_step allows c v w t d e given Answered (inr n) k = absurd (goes_apart_too (sym n.2.goes ∙ k.keeps.0))
kept_step allows c v w t d e given (Ends end) (inl a) k = inl (record {
  reaction = a.reaction;
  takes = subst (λ (x : SessionValue). TakesNext allows c v.session x d e a.reaction) (sym k.session) a.takes;
  ends = same_last_word v w _ (octets_of a.reaction.responses) given.next a.reaction.next end
      (octets_are given a.reaction.responses a.reaction.next a.written) a.written.goes
      (other_session v w t _ given.next end k.keeps);
})
kept_step allows c v w t d e given (Ends end) (inr n) k = inr (record {
  idle = subst (λ (x : SessionValue). IsIdle v.session x d e) (sym k.session) n.0;
  fault = n.1;
  ends = same_last_word v w _ (octets_of (notice ∷ [])) given.next DisconnectedNext end
      (octets_are given (notice ∷ []) DisconnectedNext n.2) n.2.goes
      (other_session v w t _ given.next end k.keeps);
})

-- the end that an error is
abbrev end_of : AnswerError → SessionEnd
end_of TooLong = WriteFailed
end_of NoMemoryError = NoMemory

none_kept : (v w : ConversationValue) (octets : List ℕ) (next : Next) (error : AnswerError) → w.unsent ≡ v.unsent →
    w.end ≡ Some (end_of error) → EndsBy v w octets next (end_of error)
none_kept v w octets next TooLong unsent end = record {
  more = [];
  unsent = unsent ∙ sym (append-nil v.unsent);
  last =
      no_front octets;
  end_is = end;
}
none_kept v w octets next NoMemoryError unsent end = record {
  more = [];
  unsent = unsent ∙ sym (append-nil v.unsent);
  last = no_front octets;
  end_is = end;
}

-- a message can't be answered, and the conversation ends
pub failed_step : {D T : Type 0} (allows : D → Exchange T → D → Type 0) (c : ConfigValue) (v w : ConversationValue)
    (d e : D) (error : AnswerError) →
    FailsNext allows c v.session w.session d e error ⊎ (IsIdle v.session w.session d e
    × (v.session.framed.fault ≡ None → ⊥) × (error ≡ TooLong → ⊥)) →
    w.unsent ≡ v.unsent → w.end ≡ Some (end_of error) → StepsTo allows c v w d e (Ends (end_of error))
failed_step allows c v w d e error (inl f) unsent end = inl (record {
  reaction = f.reaction;
  takes = f.takes;
  ends = none_kept v w (octets_of f.reaction.responses) f.reaction.next error unsent end;
})
failed_step allows c v w d e error (inr n) unsent end = inr (record {
  idle = n.0;
  fault = n.1;
  ends = none_kept v w (octets_of (notice ∷ [])) DisconnectedNext error unsent end;
})

-- nothing whole stands next
pub idle_step : {D T : Type 0} (allows : D → Exchange T → D → Type 0) (c : ConfigValue) (v : ConversationValue)
    (t : SessionValue) (d e : D) →
    IsIdle v.session t d e × (v.session.framed.fault ≡ None) → StepsTo allows c v (record v { session = t }) d e Awaits
idle_step allows c v t d e (idle, fault) = (idle, fault, ap (λ (x : SessionValue). record v { session = x }) idle.same)

apart : false ≡ true → ⊥
apart e = cc

-- no octets are put behind
pub none_grown : (old new octets : List ℕ) → new ≡ old → HasGrown old new octets false
none_grown old new octets is = record {
  taken = [];
  grown = is ∙ sym (append-nil old);
  front = no_front octets;
  whole = λ e. absurd (apart e);
}

-- all are
pub all_grown : (old new octets : List ℕ) → new ≡ old ++ octets → HasGrown old new octets true
all_grown old new octets is = record {
  taken = octets;
  grown = is;
  front =
      record { rest = []; is = sym (append-nil octets) };
  whole = λ _. refl;
}

-- the same, where none were there
pub filled : (old new octets : List ℕ) → (length old == 0) ≡ true → new ≡ octets → HasGrown old new octets true
filled [] new octets none is = all_grown [] new octets is
filled (x ∷ xs) new octets none is = let other = eqb-true (suc (length xs)) 0 none in absurd (omega (arith, other))

pub on_true : {P : Type 0} (b : Bool) → b ≡ true → OnTrue b P → P
on_true true e h = h
on_true false e h = absurd (apart e)
