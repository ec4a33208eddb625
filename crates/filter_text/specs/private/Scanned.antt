-- The value of a text, octet by octet (RFC 4515 3, valueencoding).
use Rattle.std.specs.Prelude.{ℕ, List, [], ◌∷◌, ◌++◌, cond, Option, None, Some, nat_eq}
use Rattle.filter_text.specs.Values.{is_normal, hex_octet}
use Rattle.filter_text.specs.declared.value_reading.ValueState.{ValueState}
use Rattle.filter_text.specs.declared.value_reading.ValueState.TheVariants.{Between, Escape, Half}
use Rattle.filter_text.specs.declared.value_reading.Turn.{Turn}
use Rattle.filter_text.specs.declared.value_reading.Turn.TheVariants.{Refuses, Reads, Gives}

-- the octet that two digits spell, if they do
abbrev pub spelled : Option ℕ → Turn
spelled None = Refuses
spelled (Some c) = Gives c

-- what an octet does between octets of the value, behind a backslash, and behind a backslash and a digit
abbrev pub turn : ValueState → ℕ → Turn
turn Between c = cond (nat_eq c 92) (Reads Escape) (cond (is_normal c) (Gives c) Refuses)
turn Escape c = Reads (Half c)
turn (Half h) c = spelled (hex_octet h c)

-- a text ends between octets of the value
abbrev pub ended : List ℕ → ValueState → Option (List ℕ)
ended v Between = Some v
ended v Escape = None
ended v (Half h) = None

-- what follows a turn
abbrev pub turned : List ℕ → Turn → (List ℕ → ValueState → Option (List ℕ)) → Option (List ℕ)
turned v Refuses f = None
turned v (Reads s) f = f v s
turned v (Gives c) f = f (v ++ c ∷ []) Between

-- the octets so far, and those that the text behind them spells
abbrev pub scanned : List ℕ → ValueState → List ℕ → Option (List ℕ)
scanned v s [] = ended v s
scanned v s (c ∷ cs) = turned v (turn s c) (λ w n. scanned w n cs)

-- the value of a text
abbrev pub value_of : List ℕ → Option (List ℕ)
value_of text = scanned [] Between text
