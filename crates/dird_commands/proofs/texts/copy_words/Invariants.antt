use Rattle.std.proofs.Common.{◌≡◌, ◌++◌, drop, map, string_bytes}
use Rattle.dird_commands.proofs.texts.copy_words.Given as goal

abbrev pub invariant-loop-word : goal.invariant-loop-word
invariant-loop-word l = map string_bytes l.texts.items ++ map (λ w. w.now) (drop l.word-index l.words) ≡
    map (λ w. w.now) l.words
