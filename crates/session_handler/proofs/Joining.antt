-- Sessions that go on, and what is asked first.
use Rattle.std.proofs.Common.{◌≡◌, inl, inr, ℕ, List, ◌∷◌, ◌++◌, refl, sym, subst, append_assoc}
use Rattle.request_checks.specs.ldap_msg.Messages.{RequestValue, MessageValue}
use Rattle.directory_api.specs.Talk.{Exchange}
use Rattle.session_handler.specs.Session.{ConfigValue, Reaction}
use Rattle.session_handler.specs.Turns.{Inquiry, asks, answers, inquires, BeginsWithRole, RoleIsFirst, Session, ends, goes_on, stops, SessionsJoin}
use Rattle.session_handler.specs.declared.answered.Next.{Next}
use Rattle.session_handler.specs.declared.answered.Next.TheVariants.{GoesOn}
use Rattle.request_checks.specs.declared.controls.Named.{Named}
use Rattle.session_handler.specs.declared.state.State.{State}

module _ {T : Type 0} (c : ConfigValue) (u : State) (ns : List MessageValue) (ys : List (Exchange T))
    (qs : List MessageValue) (next : Next) where
  joined : (s t : State) (ms : List MessageValue) (xs : List (Exchange T)) (rs : List MessageValue) (first : Next) →
      Session c s ms xs t rs first → first ≡ GoesOn →
      Session c t ns ys u qs next → Session c s (ms ++ ns) (xs ++ ys) u (rs ++ qs) next
  joined s t ms xs rs first ends is second = second
  joined s t ms xs rs first (goes_on {m = m} {ms = later} {xs = front} {ys = more} {a = a} {rs = after} turn on rest)
      is second =
      subst (λ (l : List (Exchange T)). Session c s (m ∷ (later ++ ns)) l u ((a.responses ++ after) ++ qs) next)
      (sym (append_assoc front more ys))
      (subst (λ (l : List MessageValue). Session c s (m ∷ (later ++ ns)) (front ++ (more ++ ys)) u l next)
      (sym (append_assoc a.responses after qs))
      (goes_on turn on (joined a.state t later more after first rest is second)))
  joined s t ms xs rs first (stops turn over) is second = absurd (over is)

pub join : (T : Type 0) → SessionsJoin T
join T c s t u ms ns xs ys rs qs next first second = joined c u ns ys qs next s t ms xs rs GoesOn first refl second

inquiry_begins : {T : Type 0} (c : ConfigValue) (s : State) (id : ℕ) (r : RequestValue) (named : Named)
    (xs : List (Exchange T)) (a : Reaction) → Inquiry c s id r named xs a → BeginsWithRole xs
inquiry_begins c s id r named xs a (asks {xs = later} role told outcome) = inr (role, told, later, refl)

pub role_first : (T : Type 0) → RoleIsFirst T
role_first T c s m xs a (answers is) = inl refl
role_first T c s m xs a (inquires r named is inquiry) = inquiry_begins c s m.id r named xs a inquiry
