-- What a line of a lab script should be where it is none: the line and its number come in, a sentence goes out.
use Rattle.std.specs.Prelude.{◌++◌, ℕ, List, [], ◌∷◌, nat_eq, if◌then◌else◌, cond, codes, length, Option, None, Some}
use Rattle.std.specs.List.{position}
use Rattle.std.specs.Str.{bytes_eq}
use Rattle.text_faults.specs.Fronts.{front_up_to}
use Rattle.text_faults.specs.Words.{word_shown}

-- the later words that begin a line, each with the form of the line
abbrev pub later_forms : List (List ℕ × List ℕ)
later_forms =
    (codes "beat", codes "'beat R', with a replica")
    ∷ (codes "crash", codes "'crash R', with a replica")
    ∷ (codes "recover", codes "'recover R X', with a replica and a nonce")
    ∷ (codes "resume", codes "'resume R' or 'resume R K', with a replica and how much it has committed at most")
    ∷ (codes "state", codes "'state R', with a replica")
    ∷ []

-- all words that begin a line, each with the form of the line
abbrev pub forms : List (List ℕ × List ℕ)
forms =
    (codes "replicas", codes "another line: 'replicas' comes first, and once")
    ∷ (codes "request", codes "'request R C N OP', OP being noop, add DN|type: value|.., delete DN or hex MESSAGE")
    ∷ (codes "search", codes "'search R NAMED BASE|SCOPE|FILTER', SCOPE being base, one or sub")
    ∷ (codes "deliver", codes "'deliver K ..', with numbers of messages")
    ∷ (codes "suspect", codes "'suspect R', with a replica")
    ∷ later_forms

-- the form of a line that begins with a word
abbrev pub form_of : List (List ℕ × List ℕ) → List ℕ → Option (List ℕ)
form_of [] word = None
form_of (f ∷ fs) word = if bytes_eq word f.0 then Some f.1 else form_of fs word

-- what is before a line's first space, or all of it
abbrev pub first_word : List ℕ → List ℕ
first_word line = front_up_to line (position (λ octet. nat_eq octet 32) line)

-- what a sentence says of a line that begins with a word, whose form this is
abbrev pub line_sentence : List ℕ → Option (List ℕ) → List ℕ
line_sentence word (Some form) = codes "expected " ++ form
line_sentence word None =
    cond (nat_eq (length word) 0) (codes "the line is empty, or begins with a space")
    (codes "no line begins with '" ++ word_shown word ++ codes "'")

-- what a sentence says of a line of this number, counted from 1
abbrev pub script_sentence : List ℕ → ℕ → List ℕ
script_sentence line number =
    cond (nat_eq number 1) (codes "expected 'replicas 3', 5 or 7") (line_sentence (first_word line)
    (form_of forms (first_word line)))
