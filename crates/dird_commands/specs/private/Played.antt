-- What playing a script writes, and why a script isn't played: what contracts that aren't public say of it.
-- What public contracts say is in specs/Played.
use Rattle.std.specs.Prelude.{◌≡◌, ◌⊎◌, ℕ, List, [], ◌∷◌, false, Option, None, IfSome, codes, flat_map}
use Rattle.lab_script.specs.dir_lab.Shown.{Shown}
use Rattle.local_directory.specs.Lines.{is_empty, first_line, after_line}
use Rattle.lab_script.specs.Script.{IsBadLine}
use Rattle.lab_script.specs.Played.{IsPlayed}
use Rattle.local_directory.specs.ldap_schema.Schema.{SchemaModel}
use Rattle.local_directory.specs.ldap_dn.Texts.{name_of_text}
use Rattle.dird_commands.specs.declared.fault.Fault.{Fault}
use Rattle.dird_commands.specs.declared.fault.Fault.TheVariants.{BadName, BadLine, CannotWrite, NoMemory}
use Rattle.dird_commands.specs.Begun.{name_of}
use Rattle.dird_commands.specs.private.Undone.{IsUnread}
use Rattle.dird_commands.specs.private.Replies.{text_of}

-- all lines of an input, without their ends of LF or CRLF
abbrev pub AreLines : List ℕ → List (List ℕ) → Type 0
AreLines xs [] = xs ≡ []
AreLines xs (line ∷ lines) = (is_empty xs ≡ false) × (line ≡ first_line xs) × AreLines (after_line xs) lines

-- this is the first line of an input that isn't in the language of scripts
abbrev pub IsBadLineOf : List ℕ → ℕ → Type 0
IsBadLineOf text number = (lines : List (List ℕ)) × AreLines text lines × IsBadLine lines number

-- why a text is taken for no name: it is none, or memory is wanting
abbrev pub IsUnnamed : SchemaModel → List ℕ → Fault → Type 0
IsUnnamed s text fault = ((fault ≡ BadName) × (name_of_text s text ≡ None)) ⊎ (fault ≡ NoMemory)

-- Why no replies are made of a script: the schema has no types for the root's name, or the input can't be read, or it
-- has a bad line, or memory is wanting.
abbrev pub IsScriptCause : SchemaModel → Fault → Option (List ℕ) → Type 0
IsScriptCause s fault input =
    IsUnnamed s (codes "dc=example,dc=com") fault ⊎ IsUnread fault
    ⊎ IfSome input (λ text. (number : ℕ) × (fault ≡ BadLine number) × IsBadLineOf text number)

-- Nothing is written where no replies are made; or the output can't be written.
abbrev pub IsUnplayed : SchemaModel → Fault → Option (List ℕ) → Option (List ℕ) → Option (List ℕ) → Type 0
IsUnplayed s fault input output grown = ((grown ≡ output) × IsScriptCause s fault input) ⊎ (fault ≡ CannotWrite)

-- what a lab shows of a script's text: its lines are played over a directory whose root is dc=example,dc=com
pub record IsShownOf (s : SchemaModel) (text : List ℕ) (shown : List Shown) : Type 0 where
  pub lines : List (List ℕ)
  pub are_lines : AreLines text lines
  pub played : IsPlayed s (name_of s (codes "dc=example,dc=com")) lines shown

-- What is written of a script's text: all that a lab shows of it, in order.
pub record IsPlayedText (s : SchemaModel) (text made : List ℕ) : Type 0 where
  pub shown : List Shown
  pub played : IsShownOf s text shown
  pub whole : made ≡ flat_map text_of shown
