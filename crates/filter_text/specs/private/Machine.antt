-- Machines that take a text octet by octet.
use Rattle.std.specs.Prelude.{ℕ, ◌+◌, List, [], ◌∷◌, Bool, false, cond, Option, None, Some}
use Rattle.std.specs.Option.{option_and_then}

-- something is there, and passes
abbrev pub holds : {S : Type 0} → (S → Bool) → Option S → Bool
holds p None = false
holds p (Some s) = p s

-- the place behind a text, unless an octet stops the machine
abbrev pub run : {S : Type 0} → (S → ℕ → Option S) → S → List ℕ → Option S
run step s [] = Some s
run step s (c ∷ cs) = option_and_then (λ t. run step t cs) (step s c)

-- a text after which the machine may end
abbrev pub accepts : {S : Type 0} → (S → ℕ → Option S) → (S → Bool) → S → List ℕ → Bool
accepts step ends s text = holds ends (run step s text)

-- a step that fails stops at this number of octets
abbrev pub goes_on : {S : Type 0} → ℕ → Option S → (S → Option ℕ) → Option ℕ
goes_on n None f = Some n
goes_on n (Some s) f = f s

-- how many octets the machine takes, n before these, where it does not take all or may not end behind them
abbrev pub stops : {S : Type 0} → (S → ℕ → Option S) → (S → Bool) → ℕ → S → List ℕ → Option ℕ
stops step ends n s [] = cond (ends s) None (Some n)
stops step ends n s (c ∷ cs) = goes_on n (step s c) (λ t. stops step ends (n + 1) t cs)

-- inside a part of a machine, or by a way out of it
abbrev pub within : {S T : Type 0} → (S → T) → Option T → Option S → Option T
within put out None = out
within put out (Some s) = Some (put s)
