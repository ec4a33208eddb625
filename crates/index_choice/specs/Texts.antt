-- The text of an index choice, line by line: a name or an object identifier (RFC 4512 1.4), a colon, and the kinds of
-- index that its type has, with a space before each.
use Rattle.std.specs.Prelude.{ℕ, ◌+◌, ◌-◌, List, [], ◌∷◌, ◌++◌, length, take, Bool, true, false, cond, not, ◌&&◌, ◌||◌, Option, None, Some, is_some, Result, Ok, Err, nat_eq, nat_lt, codes, ◌≡◌}
use Rattle.std.specs.List.{list_any, list_all, slice_split, find as find_first}
use Rattle.std.specs.Option.{option_map}
use Rattle.std.specs.Str.{bytes_eq}
use Rattle.schema_text.specs.Words.{is_oid, ends_with}
use Rattle.schema_text.specs.Texts.{lines_of, is_skipped}
use Rattle.dir_entry.specs.ldap_schema.Schema.{SchemaModel, find}
use Rattle.dir_entry.specs.ldap_schema.Rules.{equality_of}
use Rattle.dir_entry.specs.ldap_match.Item.{ordering_of, substrings_of}
use Rattle.index_choice.specs.declared.kinds.Kinds.{Kinds}
use Rattle.index_choice.specs.declared.line.IndexLine.{IndexLine}
use Rattle.index_choice.specs.declared.line.Named.{Named}
use Rattle.index_choice.specs.declared.line.Named.TheVariants.{Known, Unknown}
use Rattle.index_choice.specs.declared.error.IndexError.{IndexError}
use Rattle.index_choice.specs.declared.error.IndexError.TheVariants.{BadDescription, UnknownName, IndexWithoutRule, NoMemory}
use Rattle.index_choice.specs.Choice.{kinds_of}

-- the words for the kinds of index
abbrev pub is_kind : List ℕ → Bool
is_kind w = bytes_eq w (codes "pres") || (bytes_eq w (codes "eq") || (bytes_eq w (codes "ord") || bytes_eq w
    (codes "sub")))

-- whether a word is one of these, octet for octet
abbrev pub has_word : List ℕ → List (List ℕ) → Bool
has_word w words = list_any (λ x. bytes_eq x w) words

-- the kinds that are among the words
abbrev pub kinds_named : List (List ℕ) → Kinds
kinds_named words = record {
  presence = has_word (codes "pres") words;
  equality = has_word (codes "eq") words;
  ordering = has_word (codes "ord") words;
  substrings = has_word (codes "sub") words;
}

-- one kind or more, each by its word
abbrev pub are_kinds : List (List ℕ) → Bool
are_kinds words = nat_lt 0 (length words) && list_all is_kind words

-- the name before a line's colon
abbrev pub without_colon : List ℕ → List ℕ
without_colon head = take (length head - 1) head

-- a name or an object identifier, and a colon
abbrev pub is_head : List ℕ → Bool
is_head head = ends_with 58 head && is_oid (without_colon head)

-- what a name stands for
abbrev pub named_by : Option ℕ → Named
named_by None = Unknown
named_by (Some t) = Known t

-- what the words of a line say: a name with a colon, then kinds; none, where they are no such line
abbrev pub line_of_words : SchemaModel → ℕ → List (List ℕ) → Option IndexLine
line_of_words s n [] = None
line_of_words s n (head ∷ words) = cond (is_head head && are_kinds words)
    (Some (record { number = n; named = named_by (find s (without_colon head)); kinds = kinds_named words })) None

-- what the line of a number says: its words have one space between them
abbrev pub index_line : SchemaModel → ℕ → List ℕ → Option IndexLine
index_line s n line = line_of_words s n (slice_split (nat_eq 32) line)

-- lines before others, or the number of the first bad line
abbrev pub after : List IndexLine → Result (List IndexLine) ℕ → Result (List IndexLine) ℕ
after front (Ok ls) = Ok (front ++ ls)
after front (Err n) = Err n

-- what a line says before what those behind it say; the number of a line that says nothing
abbrev pub line_then : ℕ → Option IndexLine → Result (List IndexLine) ℕ → Result (List IndexLine) ℕ
line_then n None rest = Err n
line_then n (Some l) rest = after (l ∷ []) rest

-- what the line of a number says, and then lines behind it; empty lines and comments are skipped
abbrev pub line_said : SchemaModel → ℕ → List ℕ → Result (List IndexLine) ℕ → Result (List IndexLine) ℕ
line_said s n l rest = cond (is_skipped l) rest (line_then n (index_line s n l) rest)

-- what lines say, from the line of a number on, or the number of the first that says nothing
abbrev pub lines_from : SchemaModel → ℕ → List (List ℕ) → Result (List IndexLine) ℕ
lines_from s n [] = Ok []
lines_from s n (l ∷ ls) = line_said s n l (lines_from s (n + 1) ls)

-- what the lines of a text say
abbrev pub index_lines : SchemaModel → List ℕ → Result (List IndexLine) ℕ
index_lines s text = lines_from s 1 (lines_of text)

-- the number of the first line that passes
abbrev pub first_line : (IndexLine → Bool) → List IndexLine → Option ℕ
first_line p ls = option_map (λ l. l.number) (find_first p ls)

-- whether a name stands for no type of the schema
abbrev pub stands_for_none : Named → Bool
stands_for_none Unknown = true
stands_for_none (Known t) = false

-- whether a line names a type that isn't there
abbrev pub is_unknown : IndexLine → Bool
is_unknown l = stands_for_none l.named

-- the second, where the first holds
abbrev pub implies : Bool → Bool → Bool
implies a b = not a || b

-- whether a type has the rules that kinds of index need; presence needs none
abbrev pub has_rules : SchemaModel → Kinds → ℕ → Bool
has_rules s k t = implies k.equality (is_some (equality_of s t)) && (implies k.ordering (is_some (ordering_of s t))
    && implies k.substrings (is_some (substrings_of s t)))

-- whether a known type lacks a rule that kinds of index need
abbrev pub lacks_rules_at : SchemaModel → Kinds → Named → Bool
lacks_rules_at s k Unknown = false
lacks_rules_at s k (Known t) = not (has_rules s k t)

-- whether a line asks for an index by a rule that its type lacks
abbrev pub lacks_rules : SchemaModel → IndexLine → Bool
lacks_rules s l = lacks_rules_at s l.kinds l.named

-- a fault of this kind at a line, or else what is wrong by the other checks
abbrev pub refused_at : Option ℕ → (ℕ → IndexError) → Option IndexError → Option IndexError
refused_at None fault rest = rest
refused_at (Some line) fault rest = Some (fault line)

-- the first thing that is wrong with lines, or with what they ask for
abbrev pub fault_in : SchemaModel → Result (List IndexLine) ℕ → Option IndexError
fault_in s (Err line) = Some (BadDescription line)
fault_in s (Ok ls) = refused_at (first_line is_unknown ls) UnknownName (refused_at (first_line (lacks_rules s) ls)
    IndexWithoutRule None)

-- The first thing that is wrong: a line that says nothing, else one that names a type that is not there, else one that
-- asks for an index by a rule that its type lacks.
abbrev pub fault_of : SchemaModel → List ℕ → Option IndexError
fault_of s text = fault_in s (index_lines s text)

-- a fault is the definition's; want of memory is no fault of a text
abbrev pub IsFaultOf : Option IndexError → IndexError → Type 0
IsFaultOf o (BadDescription line) = o ≡ Some (BadDescription line)
IsFaultOf o (UnknownName line) = o ≡ Some (UnknownName line)
IsFaultOf o (IndexWithoutRule line) = o ≡ Some (IndexWithoutRule line)
IsFaultOf o NoMemory = Unit {0}

-- whether a name stands for this type
abbrev pub is_type : ℕ → Named → Bool
is_type t Unknown = false
is_type t (Known u) = nat_eq u t

-- whether a line asks for an index of a type
abbrev pub asks : (Kinds → Bool) → ℕ → IndexLine → Bool
asks kind t l = is_type t l.named && kind l.kinds

-- the indexes that lines ask for a type, all lines together
abbrev pub chosen : List IndexLine → ℕ → Kinds
chosen ls t = record {
  presence = list_any (asks (λ k. k.presence) t) ls;
  equality = list_any (asks (λ k. k.equality) t) ls;
  ordering = list_any (asks (λ k. k.ordering) t) ls;
  substrings = list_any (asks (λ k. k.substrings) t) ls;
}

-- each type has the indexes that lines ask for; bad lines have no choice
abbrev pub IsChoiceOfLines : Result (List IndexLine) ℕ → List Kinds → Type 0
IsChoiceOfLines (Ok ls) ix = (t : ℕ) → kinds_of ix t ≡ chosen ls t
IsChoiceOfLines (Err n) ix = ⊥

-- The choice of a text: nothing is wrong with the text, and each type has the indexes that its lines ask for.
abbrev pub IsChoiceOf : SchemaModel → List ℕ → List Kinds → Type 0
IsChoiceOf s text ix = (fault_of s text ≡ None) × IsChoiceOfLines (index_lines s text) ix
