-- What a session owes after small charges: at most 5 ms, at each moment.
use Rattle.std.proofs.Common.{◌≡◌, ℕ, ◌+◌, ◌-◌, ◌*◌, ◌≤◌, Bool, true, false, cond, nat_le, min, max, List, [], ◌∷◌, refl, arith, le-leb}
use Rattle.session_turns.specs.declared.owing.Debt.{Debt}
use Rattle.session_turns.specs.declared.owing.Class.{Class}
use Rattle.session_turns.specs.declared.owing.Class.TheVariants.{First}
use Rattle.session_turns.specs.Owing.{owes, charged, charged_all, Charge, AreSmall, nothing_owed, SmallSharesStayFirst}

charge_small : (owed at since used now : ℕ) → owed ≤ 320000 → at ≤ since → used ≤ 5000 → since + 64 * used ≤ now →
    min (owed - (now - at) + 64 * used) 81920000 ≤ 320000
charge_small owed at since used now a b c d = omega arith

charge_after : (at since used now : ℕ) → at ≤ since → since + 64 * used ≤ now → max now at ≤ now
charge_after at since used now a b = omega arith

owed_small : (cs : List Charge) (since : ℕ) (d : Debt) → d.owed ≤ 320000 → d.at ≤ since → AreSmall since cs →
    (charged_all cs d).owed ≤ 320000
owed_small [] since d a b small = a
owed_small (c ∷ cs) since d a b small =
    owed_small cs c.now (charged d c.used c.now) (charge_small d.owed d.at since c.used c.now a b small.0 small.1)
    (charge_after d.at since c.used c.now b small.1) small.2

first_of : (b : Bool) (rest : Class) → b ≡ true → cond b First rest ≡ First
first_of true rest e = refl
first_of false rest e = cc

owes_less : (d : Debt) (now : ℕ) → d.owed ≤ 320000 → owes d now ≤ 320000
owes_less d now h = omega arith

pub law : SmallSharesStayFirst
law charges now small =
    let d : Debt = charged_all charges nothing_owed in
    let small_owed : d.owed ≤ 320000 = owed_small charges 0 nothing_owed (omega arith) (omega arith) small in
    first_of (nat_le (owes d now) 320000) _ (le-leb (owes d now) 320000 (owes_less d now small_owed))
