-- Messages of one session that one directory answers, one after the other. What was answered so far comes in, with one
-- more.
use Rattle.std.proofs.Common.{◌≡◌, ℕ, suc, ◌+◌, ◌≤◌, Bool, true, false, sym, subst, ◌∙◌, arith}
use Rattle.std.specs.Bool.{OnTrue, OnFalse}
use Rattle.client_link.specs.directory_api.Talk.{Exchange}
use Rattle.client_link.specs.session_handler.Session.{ConfigValue}
use Rattle.client_link.specs.ldap_session.View.{ConversationValue}
use Rattle.client_link.specs.ldap_session.Conversing.{Continues}
use Rattle.client_link.specs.ldap_session.declared.due.Step.{Step}
use Rattle.client_link.specs.Served.{config_of}
use Rattle.session_table.specs.Attending.{IsSame}
use Rattle.session_pool.specs.Answering.{Answers, AnswersNext, AnswersInTurn, AnswersSome}
use Rattle.session_pool.specs.Answering as turns
use Rattle.session_pool.specs.Sittings.{HasUpdatedSome}
use Rattle.session_pool.specs.Sittings as sittings
use Rattle.session_table.specs.declared.pooled.PooledSession.{PooledSession}

module _ {D T : Type 0} (allows : D → Exchange T → D → Type 0) (c : ConfigValue) where
  pub answers_none : (v : ConversationValue) (d : D) → AnswersSome allows c v v d d 0
  answers_none v d = record { count = 0; in_turn = turns.none; at_most = omega arith }

  pub answers_more : (v w x : ConversationValue) (d e f : D) (n : ℕ) → AnswersSome allows c v w d e n →
      AnswersNext allows c w x e f → AnswersSome allows c v x d f (n + 1)
  answers_more v w x d e f n some next =
      let k = some.at_most in record {
        count = suc some.count;
        in_turn = turns.one_more some.in_turn next;
        at_most =
            omega arith;
      }

  pub answers_up_to : (v w x : ConversationValue) (d e f : D) (n m : ℕ) → AnswersSome allows c v w d e n → x ≡ w →
      f ≡ e → n ≤ m → AnswersSome allows c v x d f m
  answers_up_to v w x d e f n m some same kept within =
      let k = some.at_most in
      record {
        count = some.count;
        in_turn = subst (λ (y : ConversationValue). AnswersInTurn allows c v y d f some.count) (sym same)
            (subst (λ (g : D). AnswersInTurn allows c v w d g some.count) (sym kept) some.in_turn);
        at_most = omega arith;
      }

-- What is answered under a number that is the session's is answered under the session's own.
module _ {D T : Type 0} (allows : D → Exchange T → D → Type 0) (shared : ConfigValue) (m n : ℕ) (same : m ≡ n) where
  pub answers_under : (v w : ConversationValue) (d e : D) (step : Step) → Continues allows (config_of shared m) v w d e
      step → Answers allows (config_of shared n) v w d e
  answers_under v w d e step continues = record {
    step = step;
    continues = subst (λ (k : ℕ). Continues allows (config_of shared k) v w d e step) same continues;
  }

  pub some_under : (v w : ConversationValue) (d e : D) (most : ℕ) → AnswersSome allows (config_of shared m) v w d e most →
      AnswersSome allows (config_of shared n) v w d e most
  some_under v w d e most some = subst (λ (k : ℕ). AnswersSome allows (config_of shared k) v w d e most) same some

-- Updates that followed one another, and further ones behind them.
module _ {D T : Type 0} (allows : D → Exchange T → D → Type 0) (c : ConfigValue) where
  pub updated_on : (d e f : D) → HasUpdatedSome allows c d e → HasUpdatedSome allows c e f → HasUpdatedSome allows c d f
  updated_on d e f some sittings.none = some
  updated_on d e f some (sittings.one_more session more answers) =
      sittings.one_more session (updated_on _ _ _ some more) answers

-- a fact for where a test fails, or holds
pub on_false : {P : Type 0} (b : Bool) → b ≡ false → OnFalse b P → P
on_false true e h = cc
on_false false e h = h

pub on_true : {P : Type 0} (b : Bool) → b ≡ true → OnTrue b P → P
on_true true e h = h
on_true false e h = cc

pub same_then : (g h k : PooledSession) → IsSame g h → IsSame h k → IsSame g k
same_then g h k a b = record { place = b.place ∙ a.place; number = b.number ∙ a.number; debt = b.debt ∙ a.debt }
