-- The index choice that is owned alone or together.
use Rattle.std.specs.Prelude.{List}
use Rattle.index_choice.specs.declared.kinds.Kinds.{Kinds}
use Rattle.dir_index.specs.declared.choice.Owned.{Owned}
use Rattle.dir_index.specs.declared.choice.Owned.TheVariants.{Alone, Together}

-- the index choice itself, whoever else has it
abbrev pub choice_in : Owned → List Kinds
choice_in (Alone ix) = ix
choice_in (Together ix) = ix.value
