-- A look and a gate as one directory.
use Rattle.std.specs.Prelude.{◌≡◌, List, [], ◌∷◌}
use Rattle.directory_api.specs.Talk.{Exchange, asked_role, learned, searched, compared, updated, Along}

-- what a pair of a look and a gate allows: of reads and of what is told what the look does, of the rest what the gate
-- does; the other stays
abbrev pub both : {L G T : Type 0} → (L → Exchange T → L → Type 0) → (G → Exchange T → G → Type 0) → L × G →
    Exchange T → L × G → Type 0
both look gate d (asked_role role told) e = gate d.1 (asked_role role told) e.1 × (e.0 ≡ d.0)
both look gate d (learned told) e = look d.0 (learned told) e.0 × (e.1 ≡ d.1)
both look gate d (searched number request answer) e = look d.0 (searched number request answer) e.0 × (e.1 ≡ d.1)
both look gate d (compared number request answer) e = look d.0 (compared number request answer) e.0 × (e.1 ≡ d.1)
both look gate d (updated client number update ended) e = gate d.1 (updated client number update ended) e.1
    × (e.0 ≡ d.0)

-- what a look is asked and told in a talk
abbrev pub reads_of : {T : Type 0} → List (Exchange T) → List (Exchange T)
reads_of [] = []
reads_of (asked_role role told ∷ xs) = reads_of xs
reads_of (learned told ∷ xs) = learned told ∷ reads_of xs
reads_of (searched number request answer ∷ xs) = searched number request answer ∷ reads_of xs
reads_of (compared number request answer ∷ xs) = compared number request answer ∷ reads_of xs
reads_of (updated client number update ended ∷ xs) = reads_of xs

-- what a gate is asked in a talk
abbrev pub asked_of_gate : {T : Type 0} → List (Exchange T) → List (Exchange T)
asked_of_gate [] = []
asked_of_gate (asked_role role told ∷ xs) = asked_role role told ∷ asked_of_gate xs
asked_of_gate (learned told ∷ xs) = asked_of_gate xs
asked_of_gate (searched number request answer ∷ xs) = asked_of_gate xs
asked_of_gate (compared number request answer ∷ xs) = asked_of_gate xs
asked_of_gate (updated client number update ended ∷ xs) = updated client number update ended ∷ asked_of_gate xs

-- Along a talk with a pair the look goes along what it is asked and told, and the gate along what it is asked.
abbrev pub PairGoesAlong : {L G T : Type 0} → (L → Exchange T → L → Type 0) → (G → Exchange T → G → Type 0) → Type 0
PairGoesAlong {L} {G} {T} look gate =
    (d e : L × G) (talk : List (Exchange T)) → Along (both look gate) d talk e
    → Along look d.0 (reads_of talk) e.0 × Along gate d.1 (asked_of_gate talk) e.1
