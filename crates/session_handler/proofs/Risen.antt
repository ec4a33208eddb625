-- Sessions keep what they have seen.
use Rattle.std.proofs.Common.{◌≡◌, ℕ, ◌+◌, ◌≤◌, max, List, [], ◌∷◌, ◌++◌, Bool, true, false, cond, Option, None, Some, Result, Ok, Err, refl, sym, ap, subst, ◌∙◌, arith}
use Rattle.std.specs.Prelude.{nat_lt}
use Rattle.request_checks.specs.ldap_msg.Messages.{RequestValue, bind, unbind, search, modify, add, delete, modify_dn, compare, abandon, extended_request, OperationValue, request, response, MessageValue}
use Rattle.request_checks.specs.Controls.{judged}
use Rattle.request_checks.specs.Numbers.{greatest}
use Rattle.request_checks.specs.Requests.{update_of, kind_of, answering_of}
use Rattle.directory_api.specs.ldap_op.Values.{OpValue}
use Rattle.directory_api.specs.Talk.{Looked, found, not_yet, gone, no_memory, RoleValue, primary, backup, changing, recovering, EndedValue, done, stale, lost, refused_memory, Exchange}
use Rattle.session_handler.specs.Session.{ConfigValue, Reaction, silence_of, Due, at_once, after_role, due_by, due_unless, due_of_op, due, Asked, nothing, a_search, a_compare, an_update, or_zero, pending_of, update_as, update_at, update_by, asked_of_update, asked_of, is_recovering, refusal, asked, after_update, asked_state}
use Rattle.session_handler.specs.Turns.{Outcome, reacts, searches, compares, updates, Inquiry, asks, Turn, answers, inquires, Session, ends, goes_on, stops}
use Rattle.session_handler.specs.Rising.{IsFrom, AreMet, number_made, seen_with, seen_in, Rises, ReadsRise}
use Rattle.session_handler.specs.declared.answered.Next.{Next}
use Rattle.session_handler.specs.declared.state.State.{State}
use Rattle.session_handler.specs.declared.pending.Pending.{Pending}
use Rattle.request_checks.specs.declared.controls.Named.{Named}
use Rattle.request_checks.specs.declared.identity.Identity.{Identity}
use Rattle.request_checks.specs.declared.identity.Identity.TheVariants.{Anonymous, Manager}
use Rattle.request_checks.specs.declared.requests.Answering.{Answering}

-- what is seen in two talks, one after the other
seen_join : {T : Type 0} (seen : ℕ) (xs ys : List (Exchange T)) → seen_in seen (xs ++ ys) ≡ seen_in (seen_in seen xs) ys
seen_join seen [] ys = refl
seen_join seen (x ∷ xs) ys = seen_join (seen_with seen x) xs ys

met_front : {T : Type 0} (xs ys : List (Exchange T)) → AreMet (xs ++ ys) → AreMet xs
met_front [] ys h = tt
met_front (x ∷ xs) ys h = (h.0, met_front xs ys h.1)

met_rest : {T : Type 0} (xs ys : List (Exchange T)) → AreMet (xs ++ ys) → AreMet ys
met_rest [] ys h = h
met_rest (x ∷ xs) ys h = met_rest xs ys h.1

rises_join : {T : Type 0} (seen : ℕ) (xs ys : List (Exchange T)) → Rises seen xs → Rises (seen_in seen xs) ys →
    Rises seen (xs ++ ys)
rises_join seen [] ys p q = q
rises_join seen (x ∷ xs) ys p q = (p.0, rises_join (seen_with seen x) xs ys p.1 q)

-- the floor of the state after what has its reaction at once
abbrev floor_of_due : Due → ℕ → ℕ
floor_of_due (at_once a) floor = a.state.floor
floor_of_due (after_role r named) floor = floor

due_by_keeps : (s : State) (id : ℕ) (r : RequestValue) (judgement : Result Named ℕ) →
    floor_of_due (due_by s id r judgement) s.floor ≡ s.floor
due_by_keeps s id r (Err code) = refl
due_by_keeps s id r (Ok named) = refl

due_unless_keeps : (s : State) (m : MessageValue) (r : RequestValue) (next : Option Next) →
    floor_of_due (due_unless s m r next) s.floor ≡ s.floor
due_unless_keeps s m r (Some next) = refl
due_unless_keeps s m r None = due_by_keeps s m.id r (judged (kind_of r) m.controls)

due_op_keeps : (s : State) (m : MessageValue) (op : OperationValue) → floor_of_due (due_of_op s m op) s.floor ≡ s.floor
due_op_keeps s m (request r) = due_unless_keeps s m r (silence_of r)
due_op_keeps s m (response r) = refl

-- what is answered at once leaves the floor
at_once_keeps : (s : State) (m : MessageValue) (a : Reaction) → due s m ≡ at_once a → a.state.floor ≡ s.floor
at_once_keeps s m a is = sym (ap (λ (d : Due). floor_of_due d s.floor) is) ∙ due_op_keeps s m m.op

-- what is asked leaves the floor, and a read names no number below it
abbrev AsksFrom : ℕ → Asked → Type 0
AsksFrom floor (nothing a) = a.state.floor ≡ floor
AsksFrom floor (a_search number q) = floor ≤ number
AsksFrom floor (a_compare number q) = floor ≤ number
AsksFrom floor (an_update client number u) = Unit {0}

names_from : (floor number : ℕ) → floor ≤ max floor number
names_from floor number = omega arith

asks_as : (c : ConfigValue) (s : State) (p : Pending) (u : OpValue) (named : Option (ℕ × ℕ)) →
    AsksFrom s.floor (update_as c s p u named)
asks_as c s p u (Some named) = tt
asks_as c s p u None = by (nat_lt s.requests greatest)
  where
    by : (b : Bool) → AsksFrom s.floor (cond b (an_update c.client (s.requests + 1) u) (refusal s p 80))
    by true = tt
    by false = refl

asks_at : (c : ConfigValue) (s : State) (p : Pending) (u : OpValue) (role : RoleValue) →
    AsksFrom s.floor (update_at c s p u role)
asks_at c s p u primary = asks_as c s p u p.named.request
asks_at c s p u (backup uri) = refl
asks_at c s p u changing = refl
asks_at c s p u recovering = refl

asks_by : (i : Identity) (c : ConfigValue) (s : State) (p : Pending) (u : OpValue) (role : RoleValue) →
    AsksFrom s.floor (update_by i c s p u role)
asks_by Anonymous c s p u role = refl
asks_by Manager c s p u role = asks_at c s p u role

asks_update : (c : ConfigValue) (s : State) (p : Pending) (role : RoleValue) (u : Option OpValue) →
    AsksFrom s.floor (asked_of_update c s p role u)
asks_update c s p role None = refl
asks_update c s p role (Some u) = asks_by s.identity c s p u role

asks_of : (c : ConfigValue) (s : State) (p : Pending) (r : RequestValue) (role : RoleValue) →
    AsksFrom s.floor (asked_of c s p r role)
asks_of c s p (bind b) role = refl
asks_of c s p unbind role = refl
asks_of c s p (search q) role = names_from s.floor (or_zero p.named.number)
asks_of c s p (modify m) role = asks_update c s p role (update_of (modify m))
asks_of c s p (add a) role = asks_update c s p role (update_of (add a))
asks_of c s p (delete name) role = asks_update c s p role (update_of (delete name))
asks_of c s p (modify_dn m) role = asks_update c s p role (update_of (modify_dn m))
asks_of c s p (compare q) role = names_from s.floor (or_zero p.named.number)
asks_of c s p (abandon k) role = refl
asks_of c s p (extended_request x) role = asks_update c s p role (update_of (extended_request x))

asks_from : (c : ConfigValue) (s : State) (p : Pending) (r : RequestValue) (role : RoleValue) →
    AsksFrom s.floor (asked c s p r role)
asks_from c s p r role = by (is_recovering role)
  where
    by : (b : Bool) → AsksFrom s.floor (cond b (refusal s p 52) (asked_of c s p r role))
    by true = refl
    by false = asks_of c s p r role

no_less : (floor : ℕ) → floor ≡ max floor 0
no_less floor = omega arith

updated_floor : (s : State) (id : ℕ) (answering : Answering) (named : Named) (ended : EndedValue) →
    (after_update (asked_state s named) id answering named ended).state.floor ≡ max s.floor (number_made ended)
updated_floor s id answering named (done number reply) = refl
updated_floor s id answering named stale = no_less s.floor
updated_floor s id answering named lost = no_less s.floor
updated_floor s id answering named refused_memory = no_less s.floor

from_below : {A : Type 0} (floor number : ℕ) (look : Looked A) → floor ≤ number → IsFrom number look → IsFrom floor look
from_below floor number (found at a) p q = omega (arith, p, q)
from_below floor number (not_yet at) p q = tt
from_below floor number gone p q = tt
from_below floor number no_memory p q = tt

-- what some steps of a session keep and see
record Keeps {T : Type 0} (floor after : ℕ) (xs : List (Exchange T)) : Type 0 where
  kept : after ≡ seen_in floor xs
  rises : AreMet xs → Rises floor xs

outcome_keeps : {T : Type 0} (s : State) (id : ℕ) (answering : Answering) (named : Named) (question : Asked)
    (xs : List (Exchange T)) (a : Reaction) →
    AsksFrom s.floor question → Outcome s id answering named question xs a → Keeps s.floor a.state.floor xs
outcome_keeps s id answering named question xs a from (reacts is) = record {
  kept = subst (AsksFrom s.floor) is from;
  rises = λ _. tt;
}
outcome_keeps s id answering named question xs a from (searches number q look is) = record {
  kept = refl;
  rises = λ met. (from_below s.floor number look (subst (AsksFrom s.floor) is from) met.0, tt);
}
outcome_keeps s id answering named question xs a from (compares number q look is) = record {
  kept = refl;
  rises = λ met. (from_below s.floor number look (subst (AsksFrom s.floor) is from) met.0, tt);
}
outcome_keeps s id answering named question xs a from (updates client number u ended is) = record {
  kept = updated_floor s id answering named ended;
  rises = λ met. (tt, tt);
}

inquiry_keeps : {T : Type 0} (c : ConfigValue) (s : State) (id : ℕ) (r : RequestValue) (named : Named)
    (xs : List (Exchange T)) (a : Reaction) →
    Inquiry c s id r named xs a → Keeps s.floor a.state.floor xs
inquiry_keeps c s id r named xs a (asks {xs = later} role told outcome) =
    let k = outcome_keeps s id (answering_of r) named (asked c s (pending_of id r named) r role) later a
    (asks_from c s (pending_of id r named) r role) outcome in
    record { kept = k.kept; rises = λ met. (tt, (tt, k.rises met.1.1)) }

turn_keeps : {T : Type 0} (c : ConfigValue) (s : State) (m : MessageValue) (xs : List (Exchange T)) (a : Reaction) →
    Turn c s m xs a → Keeps s.floor a.state.floor xs
turn_keeps c s m xs a (answers is) = record { kept = at_once_keeps s m a is; rises = λ _. tt }
turn_keeps c s m xs a (inquires r named is inquiry) = inquiry_keeps c s m.id r named xs a inquiry

session_keeps : {T : Type 0} (c : ConfigValue) (s t : State) (ms : List MessageValue) (xs : List (Exchange T))
    (rs : List MessageValue) (next : Next) →
    Session c s ms xs t rs next → Keeps s.floor t.floor xs
session_keeps c s t ms xs rs next ends = record { kept = refl; rises = λ _. tt }
session_keeps c s t ms xs rs next (goes_on {m = m} {ms = more} {xs = first} {ys = later} {a = a} {rs = said} turn goes
    rest) =
    let k = turn_keeps c s m first a turn in
    let l = session_keeps c a.state t more later said next rest in
    record {
      kept = l.kept ∙ ap (λ (n : ℕ). seen_in n later) k.kept ∙ sym (seen_join s.floor first later);
      rises = λ met. rises_join s.floor first later (k.rises (met_front first later met))
          (subst (λ (n : ℕ). Rises n later) k.kept (l.rises (met_rest first later met)));
    }
session_keeps c s t ms xs rs next (stops {m = m} {a = a} turn apart) = turn_keeps c s m xs a turn

pub reads_rise : (T : Type 0) → ReadsRise T
reads_rise T c s t ms xs rs next session =
    let k = session_keeps c s t ms xs rs next session in (k.kept, k.rises)
