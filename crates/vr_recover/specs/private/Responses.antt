-- How a response is kept, and taken back. No rule of recovery is made here.
use Rattle.std.specs.Prelude.{ℕ, suc, ◌-◌, ◌==◌, cond, List, [], ◌∷◌, length, take, slice_set}
use Rattle.vr_state.specs.declared.message.Response.{Response}
use Rattle.vr_recover.specs.declared.kept.KeptResponse.{KeptResponse}
use Rattle.vr_recover.specs.declared.kept.KeptResponse.TheVariants.{Nothing, Added, Changed}

-- The place of the first that is noted of j, counted from 0; the length where there is none.
abbrev pub place_of : {A : Type 0} → ℕ → List (ℕ × A) → ℕ
place_of j [] = 0
place_of j (x ∷ xs) = cond (x.0 == j) 0 (suc (place_of j xs))

-- The responses as they were before one was kept.
abbrev pub taken_back : {P : Type 0} → KeptResponse P → List (ℕ × Response P) → List (ℕ × Response P)
taken_back Nothing xs = xs
taken_back Added xs = take (length xs - 1) xs
taken_back (Changed place old) xs = slice_set xs place old
