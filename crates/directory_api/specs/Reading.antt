-- What a read of one state comes to, by the state's number.
use Rattle.std.specs.Prelude.{◌≡◌, ℕ, ◌<◌, ◌≤◌}
use Rattle.directory_api.specs.Talk.{Looked, found, not_yet, gone, no_memory}

-- A read, of a directory at one number, that names another: where that is no later, this is the answer, and it is of
-- the directory's own number, or there is no memory for it; else the read is told the directory's number.
abbrev pub IsReadAt : {A : Type 0} → ℕ → ℕ → A → Looked A → Type 0
IsReadAt number named answered (found at a) = (named ≤ number) × (at ≡ number) × (a ≡ answered)
IsReadAt number named answered (not_yet at) = (number < named) × (at ≡ number)
IsReadAt number named answered gone = ⊥
IsReadAt number named answered no_memory = named ≤ number
