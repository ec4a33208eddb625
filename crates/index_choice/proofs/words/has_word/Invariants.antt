use Rattle.std.proofs.Common.{◌≡◌, map, drop}
use Rattle.index_choice.specs.Texts.{has_word}
use Rattle.index_choice.proofs.words.has_word.Given as goal

abbrev pub invariant-loop-other : goal.invariant-loop-other
invariant-loop-other l = has_word l.word (map (λ x. x.now) (drop l.other-index l.words)) ≡ has_word l.word
    (map (λ x. x.now) l.words)
