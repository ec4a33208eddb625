use Rattle.std.proofs.Common.{◌≡◌, map, drop}
use Rattle.std.specs.List.{list_all}
use Rattle.index_choice.specs.Texts.{is_kind}
use Rattle.index_choice.proofs.words.are_kinds.Given as goal

abbrev pub invariant-loop-word : goal.invariant-loop-word
invariant-loop-word l = list_all is_kind (map (λ x. x.now) (drop l.word-index l.words)) ≡ list_all is_kind
    (map (λ x. x.now) l.words)
