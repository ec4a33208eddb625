-- The keywords of descriptions, each with what is to follow it (RFC 4512 4.1.1, 4.1.2): a word comes in, the keyword
-- that it is goes out.
use Rattle.std.specs.Prelude.{ℕ, List, [], ◌∷◌, Bool, cond, codes, is_some, Option, None, Some}
use Rattle.std.specs.Option.{option_or}
use Rattle.schema_meaning.specs.schema_text.Words.{is_same_word, is_extension}
use Rattle.schema_faults.specs.declared.forms.Lines.{Lines}
use Rattle.schema_faults.specs.declared.forms.Lines.TheVariants as lines

-- a keyword: its word, its place in the order, and what is to follow it
pub record FormModel : Type 0 where
  pub word : List ℕ
  pub place : ℕ
  pub wanted : List ℕ

-- the keyword of these parts
abbrev pub form : List ℕ → ℕ → List ℕ → FormModel
form word place wanted = record { word = word; place = place; wanted = wanted }

-- what keywords need behind them
abbrev pub one_name : List ℕ
one_name = codes "a name or an object identifier"

-- the same of keywords that may have several
abbrev pub many_names : List ℕ
many_names = codes "a name, or several in parentheses with $ between them"

-- the keywords of attribute types alone (RFC 4512 4.1.2)
abbrev pub type_forms : List FormModel
type_forms =
    form (codes "SUP") 4 one_name
    ∷ form (codes "EQUALITY") 5 one_name
    ∷ form (codes "ORDERING") 6 one_name
    ∷ form (codes "SUBSTR") 7 one_name
    ∷ form (codes "SYNTAX") 8 (codes "an object identifier, or one with a length in braces")
    ∷ form (codes "SINGLE-VALUE") 9 []
    ∷ form (codes "USAGE") 10 (codes "userApplications, the one usage that is supported")
    ∷ []

-- the keywords of object classes alone; the kinds of a class share their place (RFC 4512 4.1.1)
abbrev pub class_forms : List FormModel
class_forms =
    form (codes "SUP") 4 many_names
    ∷ form (codes "ABSTRACT") 11 []
    ∷ form (codes "STRUCTURAL") 11 []
    ∷ form (codes "AUXILIARY") 11 []
    ∷ form (codes "MUST") 12 many_names
    ∷ form (codes "MAY") 13 many_names
    ∷ []

-- the keywords of both (RFC 4512 4.1)
abbrev pub common_forms : List FormModel
common_forms =
    form (codes "NAME") 1 (codes "a name in quotes, or several in parentheses")
    ∷ form (codes "DESC") 2 (codes "a text in quotes")
    ∷ form (codes "OBSOLETE") 3 []
    ∷ []

-- an extension: it may be given more than once, behind all others
abbrev pub extension : FormModel
extension = form (codes "X-..") 14 (codes "a text in quotes, or several in parentheses")

-- the first of keywords that a word is, in any case
abbrev pub form_among : List FormModel → List ℕ → Option FormModel
form_among [] word = None
form_among (f ∷ fs) word = cond (is_same_word f.word word) (Some f) (form_among fs word)

-- the keywords of one kind of line alone
abbrev pub own_forms : Lines → List FormModel
own_forms lines.Types = type_forms
own_forms lines.Classes = class_forms

-- an extension's word begins with X- (RFC 4512 4.1, xstring)
abbrev pub extension_if : List ℕ → Option FormModel
extension_if word = cond (is_extension word) (Some extension) None

-- The keyword of a line that a word is, in any case.
abbrev pub form_of : Lines → List ℕ → Option FormModel
form_of ls word = option_or (form_among common_forms word) (option_or (form_among (own_forms ls) word)
    (extension_if word))

-- the other kind of line
abbrev pub other_lines : Lines → Lines
other_lines lines.Types = lines.Classes
other_lines lines.Classes = lines.Types

-- whether a word is a keyword of the other kind of line
abbrev pub is_elsewhere : Lines → List ℕ → Bool
is_elsewhere ls word = is_some (form_of (other_lines ls) word)
