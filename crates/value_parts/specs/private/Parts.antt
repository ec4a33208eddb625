-- What holds of the parts of an attribute's values.
use Rattle.std.specs.Prelude.{◌≡◌, ℕ, List, length, map, Option, None, Some}
use Rattle.value_parts.specs.Parts.{PartModel}
use Rattle.value_parts.specs.Walked.{parts_in}
use Rattle.ldap_match.specs.ldap_syntax.Forms.{form_of}
use Rattle.value_parts.specs.declared.part.Part.{Part}

-- the texts of a part are those of its values
abbrev pub HaveTexts : Option Part → Type 0
HaveTexts None = Unit {0}
HaveTexts (Some p) = p.forms.now ≡ map form_of p.values.now

-- A walk over parts has so many values before it, and the part that is before the list has the texts of its values.
pub record AreParts (first : Option Part) (rest : List PartModel) (len : ℕ) : Type 0 where
  pub long : len ≡ length (parts_in first rest).values
  pub texts : HaveTexts first
