-- How many replicas a script names.
use Rattle.std.proofs.Common.{◌≡◌, ℕ, ◌==◌, ◌||◌, Bool, true, false, cond, List, [], ◌∷◌, Option, Some, None, option_and_then, refl, sym, subst, arith}
use Rattle.std.proofs.lemmas.Bool.{eqb-true}
use Rattle.dir_lab.specs.vr_world.Law.{IsSize}
use Rattle.lab_script.specs.Events.{EventValue}
use Rattle.lab_script.specs.Lines.{replicas_of}
use Rattle.lab_script.specs.Words.{tokens_of, words_of}
use Rattle.lab_script.specs.Script.{IsSchedule}
use Rattle.lab_script.specs.declared.token.Token.{Token}
use Rattle.lab_script.specs.declared.token.Token.TheVariants.{Replicas, Number}

either : {P : Type 0} (a b : Bool) → (a || b) ≡ true → (a ≡ true → P) → (b ≡ true → P) → P
either true b e f g = f refl
either false b e f g = g e

three : IsSize 3
three = record { odd = refl; three = omega arith }

five : IsSize 5
five = record { odd = refl; three = omega arith }

seven : IsSize 7
seven = record { odd = refl; three = omega arith }

-- one of the three
of_three : (n : ℕ) → (n == 3 || n == 5 || n == 7) ≡ true → IsSize n
of_three n h =
    either (n == 3 || n == 5) (n == 7) h
    (λ k. either (n == 3) (n == 5) k (λ e. subst IsSize (sym (eqb-true n 3 e)) three)
    (λ e. subst IsSize (sym (eqb-true n 5 e)) five))
    (λ e. subst IsSize (sym (eqb-true n 7 e)) seven)

by_test : (b : Bool) (m n : ℕ) → (m == 3 || m == 5 || m == 7) ≡ b → cond b (Some m) None ≡ Some n → IsSize n
by_test true m n e h = let same : m ≡ n = cc in subst IsSize same (of_three m e)
by_test false m n e h = absurd cc

by_words : (ts : List Token) (n : ℕ) → replicas_of ts ≡ Some n → IsSize n
by_words (Replicas ∷ Number m ∷ []) n h = by_test (m == 3 || m == 5 || m == 7) m n refl h
by_words _ n h = absurd cc

by_line : (o : Option (List Token)) (n : ℕ) → option_and_then replicas_of o ≡ Some n → IsSize n
by_line None n h = absurd cc
by_line (Some ts) n h = by_words ts n h

-- A schedule is one of 2f + 1 replicas.
pub is_size : (lines : List (List ℕ)) (n : ℕ) (es : List EventValue) → IsSchedule lines n es → IsSize n
is_size [] n es h = absurd h
is_size (line ∷ lines) n es h = by_line (tokens_of (words_of line)) n h.0
