use Rattle.std.proofs.Common.{◌≡◌, Bool, true, false, not, refl}

not_true : (b r : Bool) → r ≡ not b → not r ≡ true → b ≡ true
not_true true r e h = refl
not_true false r e h = absurd (cc)

not_false : (b r : Bool) → r ≡ not b → not r ≡ false → b ≡ false
not_false false r e h = refl
not_false true r e h = absurd (cc)
