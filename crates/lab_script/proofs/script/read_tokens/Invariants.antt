use Rattle.std.proofs.Common.{◌≡◌, ℕ, Bor, List, drop}
use Rattle.lab_script.specs.Each.{all_of}
use Rattle.lab_script.proofs.OneByOne.{after}
use Rattle.lab_script.specs.Words.{token_of, tokens_of, words_of}
use Rattle.lab_script.proofs.script.read_tokens.Given as goal

-- what is read so far, and then what is left, is all
abbrev pub invariant-loop-word : goal.invariant-loop-word
invariant-loop-word l = after l.tokens.items (all_of (λ (w : Bor (List ℕ)). token_of w.now)
    (drop l.word-index l.word-items)) ≡ tokens_of (words_of l.line)
