-- Numbers from the lowest on.
use Rattle.std.proofs.Common.{◌≡◌, ℕ, ◌+◌, ◌-◌, ◌<◌, ◌≤◌, suc, Bool, cond, None, Some, refl, arith}
use Rattle.ldif_faults.specs.Classes.{lowest}

-- one number less is left
pub lowest_step : (f : ℕ → Bool) (i n : ℕ) → i < n → lowest f i (n - i) ≡ cond (f i) (Some i)
    (lowest f (i + 1) (n - (i + 1)))
lowest_step f i n h = let e : n - i ≡ suc (n - (i + 1)) = omega arith in rw e refl

-- none is left
pub lowest_none : (f : ℕ → Bool) (i n : ℕ) → n ≤ i → lowest f i (n - i) ≡ None
lowest_none f i n h = let e : n - i ≡ 0 = omega arith in rw e refl
