-- Updates that wait in threads. What is looked up at a thread comes in; whose update that is comes out.
use Rattle.std.proofs.Common.{◌≡◌, ◌⊎◌, inl, inr, ℕ, ◌<◌, List, length, Bool, true, false, Option, Some, ap, subst}
use Rattle.std.specs.Prelude.{slice_get, nat_eq, ◌↔◌, IsTrue}
use Rattle.std.specs.declared.time.Duration.{Duration}
use Rattle.std.specs.declared.time.Instant.{Instant}
use Rattle.std.proofs.lemmas.Bool.Decides.{eqb_tells}
use Rattle.std.proofs.lemmas.Option.{slice_get_within}
use Rattle.session_table.specs.Waiting.{IsLate}
use Rattle.session_table.specs.Posting.{IsPast, IsClosedFor, HasPost, IsGone}
use Rattle.session_table.specs.declared.pooled.PooledSession.{PooledSession}
use Rattle.session_table.specs.declared.updaters.Updater.{Updater}

same_post : (o : Option (Option Updater)) (p q : Updater) → o ≡ Some (Some p) → o ≡ Some (Some q) → p ≡ q
same_post o p q e f = cc

-- the update in a thread is that of the session of a token, or isn't
pub is_of : (updaters : List (Option Updater)) (thread token : ℕ) (p : Updater) → slice_get updaters thread ≡
    Some (Some p) → IsTrue (nat_eq p.token token) ↔ HasPost updaters thread token
is_of updaters thread token p at = (there (eqb_tells p.token token), back)
  where
    there : ((nat_eq p.token token ≡ true) × (p.token ≡ token)) ⊎ ((nat_eq p.token token ≡ false)
        × (p.token ≡ token → ⊥)) → IsTrue (nat_eq p.token token) → HasPost updaters thread token
    there (inl e) h = record {
      closed = p.closed;
      at = subst (λ (n : ℕ). slice_get updaters thread ≡
          Some (Some (record { token = n; closed = p.closed }))) e.1 at;
    }
    there (inr e) h = cc

    back : HasPost updaters thread token → IsTrue (nat_eq p.token token)
    back h = by (eqb_tells p.token token)
      where
        same : p.token ≡ token
        same = ap (λ (x : Updater). x.token) (same_post (slice_get updaters thread) p
            (record { token = token; closed = h.closed }) at h.at)

        by : ((nat_eq p.token token ≡ true) × (p.token ≡ token)) ⊎ ((nat_eq p.token token ≡ false)
            × (p.token ≡ token → ⊥)) → nat_eq p.token token ≡ true
        by (inl e) = e.0
        by (inr e) = absurd (e.1 same)

-- its client has sent no more for so long, or hasn't
same_since : (o : Option Instant) (s t : Instant) → o ≡ Some s → o ≡ Some t → s ≡ t
same_since o s t e f = cc

pub is_closed_since : (p : Updater) (limit : Duration) (now since : Instant) (b : Bool) → p.closed ≡ Some since →
    (IsTrue b ↔ IsPast since limit now) → IsTrue b ↔ IsClosedFor p limit now
is_closed_since p limit now since b closed past = (
  λ h. record { since = since; closed = closed; past = past.0 h },
  λ g. past.1 (subst (λ (i : Instant). IsPast i limit now) (same_since p.closed g.since since g.closed closed)
      g.past),
)

-- a session is late, or isn't
pub is_late_since : (g : PooledSession) (limit : Duration) (now since : Instant) (b : Bool) → g.began ≡ Some since →
    (IsTrue b ↔ IsPast since limit now) → IsTrue b ↔ IsLate g limit now
is_late_since g limit now since b began past = (
  λ h. record { since = since; began = began; past = past.0 h },
  λ l. past.1 (subst (λ (i : Instant). IsPast i limit now) (same_since g.began l.since since l.began began)
      l.past),
)

pub is_gone_there : (updaters : List (Option Updater)) (limit : Duration) (now : Instant) (thread : ℕ) (p : Updater)
    (b : Bool) → slice_get updaters thread ≡ Some (Some p) →
    (IsTrue b ↔ IsClosedFor p limit now) → IsTrue b ↔ IsGone updaters limit now thread
is_gone_there updaters limit now thread p b at closed = (
  λ h. record { post = p; at = at; closed = closed.0 h },
  λ g. closed.1 (subst (λ (q : Updater). IsClosedFor q limit now) (same_post (slice_get updaters thread) g.post
      p g.at at) g.closed),
)

-- an update waits in a thread that there is
pub post_within : (updaters : List (Option Updater)) (thread token : ℕ) → HasPost updaters thread token →
    thread < length updaters
post_within updaters thread token h = slice_get_within updaters thread
    (Some (record { token = token; closed = h.closed })) h.at

pub gone_within : (updaters : List (Option Updater)) (limit : Duration) (now : Instant) (thread : ℕ) →
    IsGone updaters limit now thread → thread < length updaters
gone_within updaters limit now thread h = slice_get_within updaters thread (Some h.post) h.at
