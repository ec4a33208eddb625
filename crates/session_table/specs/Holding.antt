-- What the sessions at their places hold. The list before and after a session is put at its place comes in.
use Rattle.std.specs.Prelude.{◌≡◌, ◌↔◌, IsFalse, List, Option, slice_set}
use Rattle.ldap_session.specs.session_handler.Session.{at_first}
use Rattle.session_turns.specs.Holding.{kept}
use Rattle.session_turns.specs.declared.holders.Holder.{Holder}
use Rattle.session_table.specs.Attending.{talk}
use Rattle.session_table.specs.declared.pooled.PooledSession.{PooledSession}

-- what is posted of a session is held at its place, by one that is bound or isn't
pub record Holds (old : List (Option Holder)) (g : PooledSession) (new : List (Option Holder)) : Type 0 where
  pub holder : Holder
  pub octets : holder.octets ≡ g.posted
  pub bound : IsFalse holder.is_bound ↔ ((talk g).session.state.identity ≡ at_first.identity)
  pub put : new ≡ slice_set old g.place (kept holder)
