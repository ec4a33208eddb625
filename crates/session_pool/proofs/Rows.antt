-- Sittings of one session in a row. A row comes in, with what was heard behind it; a longer row, or what becomes of the
-- session, comes out.
use Rattle.std.proofs.Common.{◌≡◌, ℕ, suc, ◌+◌, ◌≤◌, List, None, inl, inr, sym, subst, ◌∙◌, arith}
use Rattle.client_link.specs.directory_api.Talk.{Exchange}
use Rattle.client_link.specs.session_handler.Session.{ConfigValue}
use Rattle.client_link.specs.ldap_session.View.{ConversationValue}
use Rattle.client_link.specs.ldap_session.declared.due.Due.TheVariants.{Nothing as DueNothing}
use Rattle.client_link.specs.ldap_session.declared.end.SessionEnd.{SessionEnd}
use Rattle.client_link.specs.Served.{config_of}
use Rattle.session_table.specs.Attending.{talk, IsSame, IsAllSaid, IsHeardEnd, Becomes}
use Rattle.session_table.specs.Waiting.{HasHeard}
use Rattle.session_pool.specs.Sittings.{Sitting, InARow, sits, sits_on, InARowUpTo, Attends}
use Rattle.session_table.specs.declared.pooled.PooledSession.{PooledSession}
use Rattle.session_table.specs.declared.pooled.ReadOutcome.TheVariants.{Octets, Nothing, Ends as HeardEnds}
use Rattle.session_table.specs.declared.pooled.Then.{Then}
use Rattle.session_table.specs.declared.pooled.Then.TheVariants.{Listens, Ends}

all_said : (g : PooledSession) (then : Then) → Becomes (talk g) then → then ≡ Listens → IsAllSaid (talk g) DueNothing
all_said g then becomes is = subst (λ (t : Then). Becomes (talk g) t) is becomes

module _ {D T : Type 0} (allows : D → Exchange T → D → Type 0) where
  pub one_sitting : (c : ConfigValue) (v w : ConversationValue) (d e : D) → Sitting allows c v w d e →
      InARowUpTo allows c v w d e 1
  one_sitting c v w d e sitting = record { count = 1; in_a_row = sits sitting; at_most = omega arith }

  pub and_becomes : (c : ConfigValue) (v w : ConversationValue) (d e : D) (then : Then) (n : ℕ) →
      InARowUpTo allows c v w d e n → n ≤ 256 → Becomes w then → Attends allows c v w d e then
  and_becomes c v w d e then n row within becomes =
      let k = row.at_most in record {
        sittings = record {
          count = row.count;
          in_a_row = row.in_a_row;
          at_most =
              omega arith;
        };
        becomes = inl becomes;
      }

-- A row so far, after which its session is listened to, and a read.
module _ {D T : Type 0} (allows : D → Exchange T → D → Type 0) (shared : ConfigValue) (first g h : PooledSession)
    (d e : D) (then : Then) (buffer : List ℕ) (n : ℕ)
    (row : InARowUpTo allows (config_of shared first.number) (talk first) (talk g) d e n)
    (becomes : Becomes (talk g) then) (listens : then ≡ Listens) where
  -- octets were heard, and a further sitting followed
  pub one_more_sitting : (k : PooledSession) (f : D) → IsSame first g → IsSame g h → HasHeard None None (talk g)
      buffer (talk h) Octets →
      Sitting allows (config_of shared h.number) (talk h) (talk k) e f →
      InARowUpTo allows (config_of shared first.number) (talk first) (talk k) d f (n + 1)
  one_more_sitting k f before after heard sitting =
      let number : h.number ≡ first.number = after.number ∙ before.number in
      let m = row.at_most in
      record {
        count = suc row.count;
        in_a_row = sits_on row.in_a_row (record {
          said = all_said g then becomes listens;
          buffer = buffer;
          heard =
              heard;
        })
            (subst (λ (i : ℕ). Sitting allows (config_of shared i) (talk h) (talk k) e f) number sitting);
        at_most = omega arith;
      }

  moved : n ≤ 256 → talk h ≡ talk g → InARowUpTo allows (config_of shared first.number) (talk first) (talk h) d e 256
  moved within same =
      let m = row.at_most in
      record {
        count = row.count;
        in_a_row = subst (λ (v : ConversationValue). InARow allows (config_of shared first.number) (talk first) v d e
            row.count) (sym same) row.in_a_row;
        at_most = omega arith;
      }

  -- nothing was heard
  pub heard_nothing : n ≤ 256 → HasHeard None None (talk g) buffer (talk h) Nothing →
      Attends allows (config_of shared first.number) (talk first) (talk h) d e Listens
  heard_nothing within heard = record {
    sittings = moved within heard.0;
    becomes = inl (subst (λ (v : ConversationValue). Becomes v Listens) (sym heard.0)
        (all_said g then becomes listens));
  }

  -- the stream has ended, or can't be read
  pub heard_end : n ≤ 256 → (end : SessionEnd) → HasHeard None None (talk g) buffer (talk h) (HeardEnds end) →
      Attends allows (config_of shared first.number) (talk first) (talk h) d e (Ends end)
  heard_end within end heard = record {
    sittings = moved within heard.0;
    becomes = inr (
      subst (λ (v : ConversationValue). IsAllSaid v DueNothing) (sym heard.0) (all_said g then becomes listens),
      subst (λ (v : ConversationValue). IsHeardEnd v end) (sym heard.0) heard.1,
    );
  }
