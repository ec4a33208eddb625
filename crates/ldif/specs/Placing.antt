-- Where the records of a text are: the numbers of their lines.
use Rattle.std.specs.Prelude.{ℕ, List, [], ◌∷◌, ◌++◌, Bool, true, false, cond, nat_eq, Option, None, Some, option_map, option_to_list, slice_get}
use Rattle.std.specs.List.{filter}
use Rattle.ldif.specs.Lines.{LineModel, lines_of}
use Rattle.ldif.specs.Says.{Says, blank, comment, named, valued, encoded, wrong, line_says}

-- whether a line ends the record before it: an empty one, or the next record's name
abbrev pub ends_record : Says → Bool
ends_record blank = true
ends_record comment = false
ends_record (named name) = true
ends_record (valued v) = false
ends_record (encoded v) = false
ends_record (wrong cause) = false

-- the lines of the open record, if one is, behind one more line of this number
abbrev pub place_after : Option (List ℕ) → Says → ℕ → Option (List ℕ)
place_after current blank n = None
place_after current comment n = current
place_after current (named name) n = Some (n ∷ [])
place_after current (valued v) n = option_map (λ p. p ++ n ∷ []) current
place_after current (encoded v) n = option_map (λ p. p ++ n ∷ []) current
place_after current (wrong cause) n = current

-- the lines of each record that is open or follows
abbrev pub places_from : Option (List ℕ) → List LineModel → List (List ℕ)
places_from current [] = option_to_list current
places_from current (l ∷ ls) =
    cond (ends_record (line_says l.text)) (option_to_list current) []
    ++ places_from (place_after current (line_says l.text) l.number) ls

-- The lines of each record of a text: first that of its name, then those of its values, in their order.
abbrev pub record_lines : List ℕ → List (List ℕ)
record_lines text = places_from None (lines_of text)

-- the octets of a line; nothing, where there is none
abbrev pub text_in : Option LineModel → List ℕ
text_in None = []
text_in (Some l) = l.text

-- The line of a text whose first part has this number, unfolded.
abbrev pub line_at : List ℕ → ℕ → List ℕ
line_at text number = text_in (slice_get (filter (λ l. nat_eq l.number number) (lines_of text)) 0)
