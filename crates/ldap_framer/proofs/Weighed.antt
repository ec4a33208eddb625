-- What a test on two numbers says of what would make them otherwise.
use Rattle.std.proofs.Common.{◌≡◌, ◌<◌, ℕ, Bool, true, false, nat_lt, refl, arith, sym, ◌∙◌}
use Rattle.std.specs.Bool.{OnFalse}
use Rattle.std.proofs.lemmas.Bool.{lt-ltb}

pub unless_more : {P : Type 0} (a b : ℕ) → (P → a < b) → OnFalse (nat_lt a b) (P → ⊥)
unless_more {P} a b f = by (nat_lt a b) refl
  where
    by : (t : Bool) → nat_lt a b ≡ t → OnFalse t (P → ⊥)
    by true e = tt
    by false e = λ p. apart (sym (lt-ltb a b (f p)) ∙ e)
      where
        apart : true ≡ false → ⊥
        apart e = cc
