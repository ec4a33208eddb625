-- A schema's text and its schema, or the first thing that is wrong with it: what contracts that aren't public say of
-- it. What public contracts say is in specs/Reading.
use Rattle.std.specs.Prelude.{ℕ, Option, Some, ◌≡◌}
use Rattle.schema_reader.specs.declared.error.SchemaError.{SchemaError}
use Rattle.schema_reader.specs.declared.error.SchemaError.TheVariants.{BadDescription, UnknownName, LoopInSup, NoEquality, NoMemory}

-- a fault is the definition's; want of memory is no fault of a text
abbrev pub IsFaultOf : Option SchemaError → SchemaError → Type 0
IsFaultOf o (BadDescription line) = o ≡ Some (BadDescription line)
IsFaultOf o (UnknownName line) = o ≡ Some (UnknownName line)
IsFaultOf o (LoopInSup line) = o ≡ Some (LoopInSup line)
IsFaultOf o (NoEquality line) = o ≡ Some (NoEquality line)
IsFaultOf o NoMemory = Unit {0}

-- the error is an unknown name, at the line that is there
abbrev pub IsUnknown : Option ℕ → SchemaError → Type 0
IsUnknown o (BadDescription line) = ⊥
IsUnknown o (UnknownName line) = o ≡ Some line
IsUnknown o (LoopInSup line) = ⊥
IsUnknown o (NoEquality line) = ⊥
IsUnknown o NoMemory = ⊥
