-- Octets put at the end of others.
use Rattle.std.specs.Prelude.{◌≡◌, ◌<◌, min, ℕ, List, ◌++◌, length, Result, Ok, Err}
use Rattle.vr_wire.specs.declared.error.WireError.{WireError}
use Rattle.vr_wire.specs.declared.error.WireError.TheVariants as error
use Rattle.vr_wire.specs.Frames.{limit}

-- what is refused as too long is longer than so many octets
abbrev pub IsLonger : ℕ → WireError → ℕ → Type 0
IsLonger most error.BadFrame len = most < len
IsLonger most error.ForeignFrame len = ⊥
IsLonger most error.NoMemory len = Unit {0}

-- these octets are made; or they are more than so many, or memory ran out
abbrev pub WritesWithin : {X : Type 0} → ℕ → (X → List ℕ) → Result X WireError → List ℕ → Type 0
WritesWithin most view (Ok x) text = view x ≡ text
WritesWithin most view (Err e) text = IsLonger most e (length text)

-- these octets are made; or they are more than the limit, or memory ran out
abbrev pub Writes : {X : Type 0} → (X → List ℕ) → Result X WireError → List ℕ → Type 0
Writes view r text = WritesWithin limit view r text

-- the most octets that are spelled under a limit: no more than 32 bits count
abbrev pub most_under : ℕ → ℕ
most_under most = min most 4294967295

-- these octets stand at the end now, or memory ran out
abbrev pub PutsAlways : Result (Unit {0}) WireError → List ℕ → List ℕ → List ℕ → Type 0
PutsAlways (Ok done) old new text = new ≡ old ++ text
PutsAlways (Err e) old new text = e ≡ error.NoMemory

-- these octets stand at the end now; or with them there would be more than so many, or memory ran out
abbrev pub PutsWithin : ℕ → Result (Unit {0}) WireError → List ℕ → List ℕ → List ℕ → Type 0
PutsWithin most (Ok done) old new text = new ≡ old ++ text
PutsWithin most (Err e) old new text = IsLonger most e (length (old ++ text))

-- these octets are made, or memory ran out
abbrev pub WritesAlways : {X : Type 0} → (X → List ℕ) → Result X WireError → List ℕ → Type 0
WritesAlways view (Ok x) text = view x ≡ text
WritesAlways view (Err e) text = e ≡ error.NoMemory
