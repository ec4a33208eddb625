-- What a session owes: the time that seats spent on its messages, and what was forgiven since. Times are microseconds,
-- debts 64ths of one.
use Rattle.std.specs.Prelude.{◌≡◌, ◌≤◌, ◌+◌, ◌-◌, ◌*◌, ℕ, List, [], ◌∷◌, cond, nat_le, min, max}
use Rattle.session_turns.specs.declared.owing.Debt.{Debt}
use Rattle.session_turns.specs.declared.owing.Class.{Class}
use Rattle.session_turns.specs.declared.owing.Class.TheVariants.{First, Second, Third, Last}

-- nothing is owed
abbrev pub nothing_owed : Debt
nothing_owed = record { owed = 0; at = 0 }

-- What is owed at a moment: a 64th of the time since it was counted is forgiven.
abbrev pub owes : Debt → ℕ → ℕ
owes d now = d.owed - (now - d.at)

-- A seat has spent so much time until now: 1.28 s are owed at most.
abbrev pub charged : Debt → ℕ → ℕ → Debt
charged d used now = record { owed = min (owes d now + 64 * used) 81920000; at = max now d.at }

-- The class of a session: up to 5 ms owed, 40 ms, 320 ms, or more.
abbrev pub class_of : Debt → ℕ → Class
class_of d now =
    cond (nat_le (owes d now) 320000) First (cond (nat_le (owes d now) 2560000) Second
    (cond (nat_le (owes d now) 20480000) Third Last))

-- a seat has spent so much time, until this moment
pub record Charge : Type 0 where
  pub used : ℕ
  pub now : ℕ

-- what is owed after several
abbrev pub charged_all : List Charge → Debt → Debt
charged_all [] d = d
charged_all (c ∷ cs) d = charged_all cs (charged d c.used c.now)

-- Each charge is 5 ms at most, and at most a 64th of the time since the one before.
abbrev pub AreSmall : ℕ → List Charge → Type 0
AreSmall since [] = Unit {0}
AreSmall since (c ∷ cs) = (c.used ≤ 5000) × (since + 64 * c.used ≤ c.now) × AreSmall c.now cs

-- A session that takes at most a 64th of a seat's time, and 5 ms at once, is of the first class at each moment.
abbrev pub SmallSharesStayFirst : Type 0
SmallSharesStayFirst = (charges : List Charge) (now : ℕ) → AreSmall 0 charges →
    class_of (charged_all charges nothing_owed) now ≡ First
