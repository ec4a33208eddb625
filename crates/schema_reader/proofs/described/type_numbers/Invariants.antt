use Rattle.std.proofs.Common.{◌≡◌, ◌++◌, map, drop}
use Rattle.schema_reader.specs.Described.{numbers_of}
use Rattle.schema_reader.proofs.described.type_numbers.Given as goal

abbrev pub invariant-loop-word : goal.invariant-loop-word
invariant-loop-word l = l.numbers.items ++ numbers_of l.types (map (λ w. w.items) (drop l.word-index l.words)) ≡
    numbers_of l.types (map (λ w. w.items) l.words)
