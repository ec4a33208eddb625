-- What search doesn't prove of `read_tokens`: `loop-word-init`, by lemmas of `OneByOne`.
use Rattle.std.proofs.Common.{ℕ, Bor, List, ap₂, ◌∙◌}
use Rattle.lab_script.specs.Each.{all_of}
use Rattle.lab_script.proofs.OneByOne.{after, texts_begin}
use Rattle.lab_script.specs.Words.{token_of, words_of}
use Rattle.lab_script.specs.declared.token.Token.{Token}
use Rattle.lab_script.proofs.script.read_tokens.Goals as goal

pub loop-word-init : goal.loop-word-init
loop-word-init c =
    ap₂ (λ (ts : List Token) (ws : List (Bor (List ℕ))). after ts (all_of (λ (w : Bor (List ℕ)). token_of w.now) ws))
    c.new-tokens.ensures.items c.deref-word-items.ensures.value
    ∙ texts_begin token_of c.in_ok-words.words.items (words_of c.args.line.now) c.in_ok-words.ensures
