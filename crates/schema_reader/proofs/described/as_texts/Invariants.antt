use Rattle.std.proofs.Common.{◌≡◌, ◌++◌, map, drop}
use Rattle.std.specs.String.{string_bytes}
use Rattle.schema_reader.specs.Described.{as_text}
use Rattle.schema_reader.proofs.described.as_texts.Given as goal

abbrev pub invariant-loop-word : goal.invariant-loop-word
invariant-loop-word l = map string_bytes l.texts.items ++ map as_text (map (λ w. w.items) (drop l.word-index l.words))
    ≡ map as_text (map (λ w. w.items) l.words)
