-- How many updates a session asks for.
use Rattle.std.proofs.Common.{◌≡◌, ◌≤◌, ℕ, ◌+◌, suc, arith, length, List, [], ◌∷◌, ◌++◌, ap, ◌∙◌}
use Rattle.session_handler.specs.ldap_msg.Messages.{MessageValue}
use Rattle.session_handler.specs.directory_api.Talk.{Exchange}
use Rattle.session_handler.specs.Session.{ConfigValue, Reaction, Asked}
use Rattle.session_handler.specs.declared.state.State.{State}
use Rattle.session_handler.specs.declared.answered.Next.{Next}
use Rattle.session_handler.specs.Turns.{Outcome, reacts, searches, compares, updates, Inquiry, asks, Turn, answers, inquires, Session, ends, goes_on, stops}
use Rattle.session_handler.specs.directory_api.Counting.{updates_of, updates_in}
use Rattle.ldap_session.specs.Counting.{OneUpdateAMessage}

outcome_asks : {T : Type 0} {s : State} {id : ℕ} {answering : _} {named : _} {question : Asked}
    (xs : List (Exchange T)) (a : Reaction) → Outcome s id answering named question xs a → updates_in xs ≤ 1
outcome_asks xs a (reacts p) = omega arith
outcome_asks xs a (searches number q look p) = omega arith
outcome_asks xs a (compares number q look p) = omega arith
outcome_asks xs a (updates client number u ended p) = omega arith

behind_two : (n : ℕ) → n ≤ 1 → 0 + (0 + n) ≤ 1
behind_two n p = omega (arith, p)

inquiry_asks : {T : Type 0} {c : ConfigValue} {s : State} {id : ℕ} {r : _} {named : _} (xs : List (Exchange T))
    (a : Reaction) → Inquiry c s id r named xs a → updates_in xs ≤ 1
inquiry_asks xs a (asks {xs = later} role told outcome) = behind_two (updates_in later) (outcome_asks later a outcome)

turn_asks : {T : Type 0} {c : ConfigValue} {s : State} {m : MessageValue} (xs : List (Exchange T)) (a : Reaction) →
    Turn c s m xs a → updates_in xs ≤ 1
turn_asks xs a (answers due) = omega arith
turn_asks xs a (inquires r named due inquiry) = inquiry_asks xs a inquiry

sum_of : (a b d : ℕ) → a + (b + d) ≡ a + b + d
sum_of a b d = omega arith

none_before : (n : ℕ) → n ≡ 0 + n
none_before n = omega arith

updates_join : {T : Type 0} (xs ys : List (Exchange T)) → updates_in (xs ++ ys) ≡ updates_in xs + updates_in ys
updates_join [] ys = none_before (updates_in ys)
updates_join (x ∷ xs) ys = ap (λ (n : ℕ). updates_of x + n) (updates_join xs ys)
    ∙ sum_of (updates_of x) (updates_in xs) (updates_in ys)

one_more : (n a b l : ℕ) → n ≡ a + b → a ≤ 1 → b ≤ l → n ≤ suc l
one_more n a b l p q r = omega (arith, p, q, r)

at_most_all : (n l : ℕ) → n ≤ 1 → n ≤ suc l
at_most_all n l p = omega (arith, p)

session_asks : {T : Type 0} (c : ConfigValue) (s t : State) (ms : List MessageValue) (xs : List (Exchange T))
    (rs : List MessageValue) (next : Next) →
    Session c s ms xs t rs next → updates_in xs ≤ length ms
session_asks c s t ms xs rs next ends = omega arith
session_asks c s t ms xs rs next (goes_on {ms = more} {xs = first} {ys = later} {a = a} {rs = said} turn goes rest) =
    one_more (updates_in (first ++ later)) (updates_in first) (updates_in later) (length more)
    (updates_join first later) (turn_asks first a turn) (session_asks c a.state t more later said next rest)
session_asks c s t ms xs rs next (stops {ms = more} {a = a} turn apart) = at_most_all (updates_in xs) (length more)
    (turn_asks xs a turn)

pub one_update_a_message : (T : Type 0) → OneUpdateAMessage T
one_update_a_message T = session_asks
