-- What is done, step by step. Octets and messages are not read here.
use Rattle.std.proofs.Common.{◌≡◌, inl, ℕ, List, [], ◌∷◌, ◌++◌, refl, subst, Result, Ok, Err}
use Rattle.std.specs.Prelude.{OnOk, OnErr}
use Rattle.request_checks.specs.ldap_msg.Messages.{SearchRequestValue, CompareRequestValue, RequestValue, MessageValue}
use Rattle.directory_api.specs.ldap_op.Values.{OpValue}
use Rattle.directory_api.specs.Answers.{ReplyModel, Answer}
use Rattle.directory_api.specs.Talk.{Looked, RoleValue, EndedValue, Exchange, asked_role, learned, searched, compared, updated, Along, ends, goes}
use Rattle.directory_api.specs.log_entry.declared.words.Client.{Client}
use Rattle.request_checks.specs.Requests.{answering_of}
use Rattle.session_handler.specs.Responses.{search_messages, compare_messages}
use Rattle.session_handler.specs.Session.{ConfigValue, Reaction, at_once, due, nothing, a_search, a_compare, an_update, asked, number_seen, reading_from, after_search, after_compare, after_update, asked_state}
use Rattle.session_handler.specs.private.Heard.{IsPending}
use Rattle.session_handler.specs.Taken.{AreSaid, IsDone, HasTaken}
use Rattle.session_handler.specs.private.Taken.{OutcomeOf}
use Rattle.session_handler.specs.Turns.{Outcome, reacts, searches, compares, updates, Inquiry, asks, Turn, answers, inquires}
use Rattle.session_handler.specs.declared.answered.Answered.{Answered}
use Rattle.session_handler.specs.declared.answered.Next.TheVariants.{GoesOn}
use Rattle.request_checks.specs.declared.controls.Named.{Named}
use Rattle.request_checks.specs.declared.fault.AnswerError.{AnswerError}
use Rattle.session_handler.specs.declared.pending.Pending.{Pending}
use Rattle.request_checks.specs.declared.requests.Answering.{Answering}
use Rattle.session_handler.specs.declared.state.State.{State}

on_ok : {T E P : Type 0} (r : Result T E) → P → OnOk r P
on_ok (Ok x) h = h
on_ok (Err e) h = tt

on_err : {T E P : Type 0} (r : Result T E) → P → OnErr r P
on_err (Ok x) h = tt
on_err (Err e) h = h

-- what is said of a reaction is all that is left to do, where the state is the one after it
pub said_is_done : (a : Reaction) (t : State) (result : Result Answered AnswerError) → t ≡ a.state →
    AreSaid a.responses a.next result → IsDone a t result
said_is_done a t result is said = record {
  state = on_ok result is;
  left = on_err result (inl is);
  said = said;
}

along_more : {D T : Type 0} (allows : D → Exchange T → D → Type 0) (d e f : D) (xs ys : List (Exchange T)) →
    Along allows d xs e → Along allows e ys f → Along allows d (xs ++ ys) f
along_more allows d e f xs ys ends second = second
along_more allows d e f xs ys (goes {e = m} {xs = later} x rest) second =
    goes x (along_more allows m e f later ys rest second)

module _ {D T : Type 0} (allows : D → Exchange T → D → Type 0) (t : State) (result : Result Answered AnswerError) where
  -- nothing is asked
  pub reacted : (d : D) (s : State) (id : ℕ) (answering : Answering) (named : Named) (a : Reaction) →
      IsDone a t result →
      HasTaken allows d d (Outcome s id answering named (nothing a)) t result
  reacted d s id answering named a h = record {
    talk = [];
    reaction = a;
    turn = reacts refl;
    along = ends;
    done = h;
  }

  -- one question
  pub one_search : (d e : D) (s : State) (id : ℕ) (answering : Answering) (named : Named) (number : ℕ)
      (q : SearchRequestValue) (look : Looked Answer) →
      allows d (searched number q look) e → t ≡ reading_from s (number_seen look) →
      AreSaid (search_messages id named.number look) GoesOn result →
      HasTaken allows d e (Outcome s id answering named (a_search number q)) t result
  one_search d e s id answering named number q look h is said = record {
    talk = searched number q look ∷ [];
    reaction = after_search s id named look;
    turn = searches number q look refl;
    along = goes h ends;
    done = said_is_done (after_search s id named look) t result is said;
  }

  pub one_compare : (d e : D) (s : State) (id : ℕ) (answering : Answering) (named : Named) (number : ℕ)
      (q : CompareRequestValue) (look : Looked ReplyModel) →
      allows d (compared number q look) e → t ≡ reading_from s (number_seen look) →
      AreSaid (compare_messages id named.number look) GoesOn result →
      HasTaken allows d e (Outcome s id answering named (a_compare number q)) t result
  one_compare d e s id answering named number q look h is said = record {
    talk = compared number q look ∷ [];
    reaction = after_compare s id named look;
    turn = compares number q look refl;
    along = goes h ends;
    done = said_is_done (after_compare s id named look) t result is said;
  }

  pub one_update : (d e : D) (s : State) (id : ℕ) (answering : Answering) (named : Named) (client : Client)
      (number : ℕ) (u : OpValue) (ended : EndedValue) →
      allows d (updated client number u ended) e → IsDone (after_update (asked_state s named) id answering named
      ended) t result →
      HasTaken allows d e (Outcome s id answering named (an_update client number u)) t result
  one_update d e s id answering named client number u ended h done = record {
    talk = updated client number u ended ∷ [];
    reaction = after_update (asked_state s named) id answering named ended;
    turn = updates client number u ended refl;
    along = goes h ends;
    done = done;
  }

  -- the role first
  pub role_then : (d e f : D) (c : ConfigValue) (s : State) (p : Pending) (r : RequestValue) (role : RoleValue)
      (told : T) →
      p.answering ≡ answering_of r → Along allows d (asked_role role told ∷ learned told ∷ []) e →
      HasTaken allows e f (OutcomeOf s p (asked c s p r role)) t result →
      HasTaken allows d f (Inquiry c s p.id r p.named) t result
  role_then d e f c s p r role told is front h =
      let g = subst (λ (k : Answering). HasTaken allows e f
      (Outcome s p.id k p.named (asked c s (record p { answering = k }) r role)) t result) is h in
      record {
        talk = asked_role role told ∷ learned told ∷ g.talk;
        reaction = g.reaction;
        turn = asks role told g.turn;
        along = along_more allows d e f (asked_role role told ∷ learned told ∷ []) g.talk front g.along;
        done = g.done;
      }

  -- a message that is a request, and passed its controls
  pub inquired : (d e : D) (c : ConfigValue) (s : State) (p : Pending) (r : RequestValue) (m : MessageValue) →
      IsPending p r m → HasTaken allows d e (Inquiry c s p.id r p.named) t result →
      HasTaken allows d e (Turn c s m) t result
  inquired d e c s p r m pending h =
      let g = subst (λ (i : ℕ). HasTaken allows d e (Inquiry c s i r p.named) t result) pending.id_is h in
      record {
        talk = g.talk;
        reaction = g.reaction;
        turn = inquires r p.named (pending.asks s) g.turn;
        along = g.along;
        done = g.done;
      }

  -- any other message
  pub answered : (d : D) (c : ConfigValue) (s : State) (m : MessageValue) (a : Reaction) → due s m ≡ at_once a →
      IsDone a t result → HasTaken allows d d (Turn c s m) t result
  answered d c s m a is h = record {
    talk = [];
    reaction = a;
    turn = answers is;
    along = ends;
    done = h;
  }
