-- What a script's lines show, and what is written of it. Facts come in and go out; no value of the program is here.
use Rattle.std.proofs.Common.{◌≡◌, ℕ, List, Option, None, Some, IfSome, codes, flat_map, refl, subst}
use Rattle.std.specs.Io.KnownBytes.{Appends}
use Rattle.lab_script.specs.dir_lab.Shown.{Shown}
use Rattle.lab_script.specs.Played.{IsPlayed}
use Rattle.local_directory.specs.ldap_schema.Schema.{SchemaModel}
use Rattle.local_directory.specs.ldap_dn.Names.{RdnModel}
use Rattle.dird_commands.specs.Begun.{name_of}
use Rattle.dird_commands.specs.private.Texts.{Turns}
use Rattle.dird_commands.specs.private.Replies.{text_of}
use Rattle.dird_commands.specs.private.Played.{AreLines, IsShownOf, IsPlayedText}

-- what is shown when the lines of an input are played
pub shown_of : (input : Option (List ℕ)) (s : SchemaModel) (suffix : List RdnModel) (lines : List (List ℕ))
    (shown : List Shown) → suffix ≡ name_of s (codes "dc=example,dc=com")
    → IfSome input (λ text. AreLines text lines) → IsPlayed s suffix lines shown →
    IfSome input (λ text. IsShownOf s text shown)
shown_of None s suffix lines shown e read played = tt
shown_of (Some text) s suffix lines shown e read played =
    let P : List RdnModel → Type 0 = λ n. IsPlayed s n lines shown in record {
      lines = lines;
      are_lines =
          read;
      played = subst P e played;
    }

-- what is written turns the input into all that is shown
pub turned : (input output grown : Option (List ℕ)) (s : SchemaModel) (shown : List Shown) →
    IfSome input (λ text. IsShownOf s text shown)
    → Appends output grown (flat_map text_of shown) → Turns (IsPlayedText s) input output grown
turned None output grown s shown played written = tt
turned (Some text) output grown s shown played written =
    (flat_map text_of shown, record { shown = shown; played = played; whole = refl }, written)
