-- Lab scripts: words of lines.
use Rattle.std.specs.Prelude.{ℕ, ◌==◌, cond, List, Option, Some, None, option_map, codes, bytes_eq}
use Rattle.std.specs.List.{slice_split}
use Rattle.lab_script.specs.Cuts.{Cut, cut}
use Rattle.lab_script.specs.Each.{all_of}
use Rattle.lab_script.specs.declared.token.Token.{Token}
use Rattle.lab_script.specs.declared.token.Token.TheVariants.{Replicas, Deliver, Suspect, Beat, Crash, Recover, Resume, State, Number}
pub use Rattle.lab_script.specs.ldap_words.Numbers.{greatest, with_digit, number_after, number_of_digits}

-- What a word says: one of these eight, or a number.
abbrev pub token_of : List ℕ → Option Token
token_of w =
    cond (bytes_eq w (codes "replicas")) (Some Replicas)
    (cond (bytes_eq w (codes "deliver")) (Some Deliver)
    (cond (bytes_eq w (codes "suspect")) (Some Suspect)
    (cond (bytes_eq w (codes "beat")) (Some Beat)
    (cond (bytes_eq w (codes "crash")) (Some Crash)
    (cond (bytes_eq w (codes "recover")) (Some Recover)
    (cond (bytes_eq w (codes "resume")) (Some Resume)
    (cond (bytes_eq w (codes "state")) (Some State)
    (option_map Number (number_of_digits w)))))))))

-- What these words say, if each says something.
abbrev pub tokens_of : List (List ℕ) → Option (List Token)
tokens_of ws = all_of token_of ws

-- The words of a line, between single spaces.
abbrev pub words_of : List ℕ → List (List ℕ)
words_of line = slice_split (λ b. b == 32) line

-- a number, and what stands behind it and one space
pub record Numbered : Type 0 where
  pub number : ℕ
  pub rest : List ℕ

-- the number of a text that is cut at its first space
abbrev pub numbered : Option Cut → Option Numbered
numbered None = None
numbered (Some k) = option_map (λ n. record { number = n; rest = k.behind }) (number_of_digits k.front)

-- The number that a text's first word writes, and the rest behind one space, where there is a space.
abbrev pub number_then : List ℕ → Option Numbered
number_then text = numbered (cut 32 text)
