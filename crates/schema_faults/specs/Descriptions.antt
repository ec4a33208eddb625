-- What is wrong with the form of a line that is no description (RFC 4512 4.1.1, 4.1.2): the line comes in, a sentence
-- goes out.
use Rattle.std.specs.Prelude.{◌++◌, ◌||◌, ◌&&◌, ℕ, ◌+◌, ◌-◌, List, [], ◌∷◌, Bool, true, false, not, nat_eq, nat_le, cond, codes, decimal, length, take, drop, is_none, unwrap_or, Option, None, Some}
use Rattle.std.specs.Str.{bytes_eq}
use Rattle.schema_meaning.specs.ldap_words.Octets.{is_empty}
use Rattle.schema_meaning.specs.schema_text.Words.{is_same_word, is_numericoid, ends_with}
use Rattle.schema_meaning.specs.schema_text.Texts.{read_text}
use Rattle.schema_faults.specs.declared.forms.Lines.{Lines}
use Rattle.schema_faults.specs.declared.forms.Lines.TheVariants as lines
use Rattle.schema_faults.specs.declared.pieces.Scan.{Scan}
use Rattle.schema_faults.specs.declared.pieces.Scan.TheVariants as scan
use Rattle.schema_faults.specs.declared.pieces.Stop.{Stop}
use Rattle.schema_faults.specs.Forms.{FormModel, form_of, is_elsewhere}
use Rattle.schema_faults.specs.Pieces.{stop_in, is_outside, pieces_of}
use Rattle.text_faults.specs.Scripts.{first_word}
use Rattle.text_faults.specs.Words.{word_shown}

-- what stands before the descriptions of a kind
abbrev pub heading : Lines → List ℕ
heading lines.Types = codes "attributeTypes: "
heading lines.Classes = codes "objectClasses: "

-- what is behind a heading, in any case; none, where the line has another front
abbrev pub behind : List ℕ → List ℕ → Option (List ℕ)
behind front line = cond (is_same_word front (take (length front) line)) (Some (drop (length front) line)) None

-- a line that begins with another word
abbrev pub other_front : List ℕ → List ℕ
other_front line = codes "expected 'attributeTypes: ' or 'objectClasses: ' at the front, not '" ++ word_shown
    (first_word line) ++ codes "'"

-- a line without a heading
abbrev pub no_heading : List ℕ → List ℕ
no_heading [] = other_front []
no_heading (octet ∷ line) =
    cond (nat_eq octet 32 || nat_eq octet 9) (codes "the line begins with a space: a description is one line, whole")
    (other_front (octet ∷ line))

-- an octet in quotes that may not come, at this column
abbrev pub bad_escape : ℕ → List ℕ
bad_escape column = codes "a backslash in quotes is \\5C and a quote \\27: see column " ++ decimal column

-- a parenthesis that may not come: a ')' outside lists, or a '(' in one
abbrev pub bad_parenthesis : Bool → ℕ → List ℕ
bad_parenthesis false column = codes "the ')' at column " ++ decimal column ++ codes
    " ends the description, and more follows it"
bad_parenthesis true column = codes "the '(' at column " ++ decimal column ++ codes " is inside another list"

-- an octet that may not come, by where the reader was
abbrev pub misplaced : Scan → ℕ → List ℕ
misplaced (scan.Bare in_list) column = bad_parenthesis in_list column
misplaced (scan.Quoted in_list) column = bad_escape column
misplaced (scan.Escape in_list) column = bad_escape column
misplaced (scan.Half in_list first) column = bad_escape column

-- octets that end inside a list or inside quotes
abbrev pub unended : Scan → List ℕ
unended (scan.Bare in_list) = codes "a '(' has no ')'"
unended (scan.Quoted in_list) = codes "a quote has no second quote"
unended (scan.Escape in_list) = codes "a quote has no second quote"
unended (scan.Half in_list first) = codes "a quote has no second quote"

-- octets in which a reader stops, the first of them at this column
abbrev pub unbalanced : ℕ → Option ℕ → Scan → List ℕ
unbalanced column None s = unended s
unbalanced column (Some index) s = misplaced s (column + index)

-- a line that has this keyword alone, with these octets behind it
abbrev pub line_with : Lines → List ℕ → List ℕ → List ℕ
line_with ls word argument = heading ls ++ codes "( 1.1 " ++ word ++ codes " " ++ argument ++ codes " )"

-- whether such a line is a description
abbrev pub is_field : Lines → List ℕ → List ℕ → Bool
is_field ls word argument = is_none (read_text (line_with ls word argument)).bad

-- what has the keywords that a line of this kind has not
abbrev pub other_owner : Lines → List ℕ
other_owner lines.Types = codes " belongs to an object class"
other_owner lines.Classes = codes " belongs to an attribute type"

-- keywords of attribute types that are not read (RFC 4512 4.1.2)
abbrev pub is_unsupported : List ℕ → Bool
is_unsupported word = is_same_word (codes "COLLECTIVE") word || is_same_word (codes "NO-USER-MODIFICATION") word

-- a keyword of the other kind of line
abbrev pub misplaced_word : Lines → List ℕ → List ℕ
misplaced_word ls word = word_shown word ++ other_owner ls

-- a keyword of RFC 4512 that isn't read
abbrev pub unsupported_word : List ℕ → List ℕ
unsupported_word word = word_shown word ++ codes " is not supported"

-- a word that no description has as a keyword
abbrev pub unknown_word : List ℕ → List ℕ
unknown_word word = codes "expected a keyword, not '" ++ word_shown word ++ codes "'"

-- a word that is no keyword of such a line
abbrev pub no_keyword : Lines → List ℕ → List ℕ
no_keyword ls word =
    cond (is_elsewhere ls word) (misplaced_word ls word) (cond (is_unsupported word) (unsupported_word word)
    (unknown_word word))

-- a keyword that needs a piece behind it, and has none or another
abbrev pub nothing_follows : List ℕ → List ℕ → List ℕ
nothing_follows word wanted = codes "nothing follows " ++ word_shown word ++ codes ", which needs " ++ wanted

-- a keyword behind which a piece stands that isn't what it needs
abbrev pub another_follows : List ℕ → List ℕ → List ℕ → List ℕ
another_follows word wanted argument = word_shown word ++ codes " needs " ++ wanted ++ codes ", not: " ++ word_shown
    argument

-- a keyword with nothing behind it, or with what it doesn't need
abbrev pub bad_argument : List ℕ → List ℕ → List ℕ → List ℕ
bad_argument word wanted [] = nothing_follows word wanted
bad_argument word wanted (octet ∷ octets) = another_follows word wanted (octet ∷ octets)

-- a keyword that waits for its argument, with what it needs
abbrev pub waiting_for : List ℕ → FormModel → Option (List ℕ × List ℕ)
waiting_for word f = cond (is_empty f.wanted) None (Some (word, f.wanted))

-- on behind a keyword, which may wait for its argument; a sentence, where the piece is no keyword
abbrev pub keyword_at : Lines → List ℕ → Option FormModel → (Option (List ℕ × List ℕ) → Option (List ℕ)) →
    Option (List ℕ)
keyword_at ls word None rest = Some (no_keyword ls word)
keyword_at ls word (Some f) rest = rest (waiting_for word f)

-- the first piece that is no keyword and no argument of one, behind a keyword that waits
abbrev pub field_fault_from : Lines → Option (List ℕ × List ℕ) → List (List ℕ) → Option (List ℕ)
field_fault_from ls None [] = None
field_fault_from ls (Some w) [] = Some (bad_argument w.0 w.1 [])
field_fault_from ls None (piece ∷ pieces) = keyword_at ls piece (form_of ls piece) (λ waiting. field_fault_from ls
    waiting pieces)
field_fault_from ls (Some w) (piece ∷ pieces) =
    cond (is_field ls w.0 piece) (field_fault_from ls None pieces) (Some (bad_argument w.0 w.1 piece))

-- a keyword behind one of the same place, and one that should have come before
abbrev pub second_kind : List ℕ → List ℕ → List ℕ
second_kind before after = after ++ codes " behind " ++ before ++ codes ": a class has one kind"

-- a keyword behind one that it comes before in the grammar (RFC 4512 4.1.1, 4.1.2)
abbrev pub too_late : List ℕ → List ℕ → List ℕ
too_late before after = after ++ codes " comes before " ++ before ++ codes " in a description"

-- a keyword behind one that is not to come before it
abbrev pub misordered : FormModel → FormModel → List ℕ
misordered before after =
    cond (bytes_eq before.word after.word) (after.word ++ codes " comes twice")
    (cond (nat_eq before.place after.place) (second_kind before.word after.word) (too_late before.word after.word))

-- whether a keyword may stand behind another: its place is higher, or it is an extension
abbrev pub may_follow : Option FormModel → FormModel → Bool
may_follow None f = true
may_follow (Some before) f = not (nat_le f.place before.place) || nat_eq f.place 14

-- a keyword that is not in its place behind the last one; nothing, where it is the first
abbrev pub misordered_behind : Option FormModel → FormModel → List ℕ
misordered_behind None f = []
misordered_behind (Some before) f = misordered before f

-- on behind a keyword in its place, or behind a piece that is none; a sentence, where a keyword isn't in its place
abbrev pub ordered_at : Option FormModel → Option FormModel → (Bool → Option FormModel → List ℕ) → List ℕ
ordered_at last None rest = rest false last
ordered_at last (Some f) rest = cond (may_follow last f) (rest (not (is_empty f.wanted)) (Some f))
    (misordered_behind last f)

-- the first keyword that is not in its place; a piece behind one that needs an argument is none
abbrev pub order_fault_from : Lines → Bool → Option FormModel → List (List ℕ) → List ℕ
order_fault_from ls is_argument last [] = codes "no description of an attribute type or an object class"
order_fault_from ls true last (piece ∷ pieces) = order_fault_from ls false last pieces
order_fault_from ls false last (piece ∷ pieces) =
    ordered_at last (form_of ls piece) (λ is_argument next. order_fault_from ls is_argument next pieces)

-- fields: the first that is none, or else the first that is not in its place
abbrev pub fields_fault : Lines → List (List ℕ) → List ℕ
fields_fault ls pieces = unwrap_or (field_fault_from ls None pieces) (order_fault_from ls false None pieces)

-- a piece that is no object identifier
abbrev pub no_identifier : List ℕ → List ℕ
no_identifier piece = codes "expected an object identifier, as 2.5.4.3, not '" ++ word_shown piece ++ codes "'"

-- pieces: an object identifier and fields
abbrev pub pieces_fault : Lines → List (List ℕ) → List ℕ
pieces_fault ls [] = codes "expected an object identifier, as 2.5.4.3"
pieces_fault ls (piece ∷ pieces) =
    cond (is_numericoid piece) (fields_fault ls pieces) (no_identifier piece)

-- what is between the outer parentheses, from this column on: lists and quotes are whole, or a reader stops in them
abbrev pub stopped : Lines → List ℕ → ℕ → Stop → List ℕ
stopped ls octets column stop =
    cond (is_none stop.index && is_outside stop.scan) (pieces_fault ls (pieces_of octets))
    (unbalanced column stop.index stop.scan)

-- what is between the outer parentheses, read up to where a reader stops
abbrev pub inside_fault : Lines → List ℕ → ℕ → List ℕ
inside_fault ls octets column = stopped ls octets column (stop_in octets)

-- what is behind the first parenthesis, from this column on
abbrev pub opened : Lines → List ℕ → ℕ → List ℕ
opened ls octets column =
    cond (ends_with 41 octets) (inside_fault ls (take (length octets - 1) octets) column)
    (codes "expected ')' at the end of the line")

-- a line whose description doesn't begin with a parenthesis, at this column
abbrev pub not_opened : ℕ → List ℕ
not_opened column = codes "expected '(' at column " ++ decimal column

-- what is behind the heading, from this column on
abbrev pub body : Lines → List ℕ → ℕ → List ℕ
body ls [] column = not_opened column
body ls (octet ∷ octets) column = cond (nat_eq octet 40) (opened ls octets (column + 1)) (not_opened column)

-- what is wrong with a line of a class, the heading of which takes 15 columns; a line of neither has no heading
abbrev pub class_line : List ℕ → Option (List ℕ) → List ℕ
class_line line None = no_heading line
class_line line (Some octets) = body lines.Classes octets 16

-- what is wrong with a line of a type, the heading of which takes 16 columns; another line may be a class's
abbrev pub type_line : List ℕ → Option (List ℕ) → List ℕ
type_line line None = class_line line (behind (heading lines.Classes) line)
type_line line (Some octets) = body lines.Types octets 17

-- What is wrong with a line that is no description.
abbrev pub line_sentence : List ℕ → List ℕ
line_sentence line = type_line line (behind (heading lines.Types) line)
