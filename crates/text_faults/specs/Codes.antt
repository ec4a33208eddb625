-- The words for result codes: a code comes in, what it says goes out.
use Rattle.std.specs.Prelude.{ℕ, List, [], ◌∷◌, nat_eq, cond, codes}

-- the codes from 35 on by their names (RFC 4511 4.1.9, appendix A)
abbrev pub later_words : List (ℕ × List ℕ)
later_words =
    (49, codes "invalid credentials")
    ∷ (50, codes "insufficient access rights")
    ∷ (51, codes "busy")
    ∷ (52, codes "unavailable")
    ∷ (53, codes "unwilling to perform")
    ∷ (64, codes "naming violation")
    ∷ (65, codes "object class violation")
    ∷ (66, codes "not allowed on an entry with entries below it")
    ∷ (67, codes "not allowed on the entry's own name")
    ∷ (68, codes "entry already exists")
    ∷ (69, codes "object class modifications prohibited")
    ∷ (71, codes "affects multiple servers")
    ∷ (80, codes "other error")
    ∷ []

-- all codes by their names
abbrev pub code_words : List (ℕ × List ℕ)
code_words =
    (1, codes "operations error")
    ∷ (2, codes "protocol error")
    ∷ (3, codes "time limit exceeded")
    ∷ (4, codes "size limit exceeded")
    ∷ (10, codes "referral")
    ∷ (11, codes "administrative limit exceeded")
    ∷ (16, codes "no such attribute")
    ∷ (17, codes "undefined attribute type")
    ∷ (18, codes "inappropriate matching")
    ∷ (19, codes "constraint violation")
    ∷ (20, codes "attribute or value exists")
    ∷ (21, codes "invalid attribute syntax")
    ∷ (32, codes "no such object")
    ∷ (34, codes "invalid name")
    ∷ later_words

-- the word for a code among these
abbrev pub word_among : List (ℕ × List ℕ) → ℕ → List ℕ
word_among [] code = codes "a code without a name"
word_among (w ∷ ws) code = cond (nat_eq code w.0) w.1 (word_among ws code)

-- the word for a code
abbrev pub word_of : ℕ → List ℕ
word_of code = word_among code_words code
