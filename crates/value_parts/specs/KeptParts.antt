-- What the values of a part are compared by, lists as a part, and a part without some of its values.
use Rattle.std.specs.Prelude.{◌≡◌, ℕ, List, Bool, cond, not, map}
use Rattle.std.specs.List.{list_any}
use Rattle.std.specs.Str.{bytes_eq}
use Rattle.ldap_match.specs.ldap_syntax.Forms.{form_of}
use Rattle.value_parts.specs.Parts.{PartModel}
use Rattle.value_parts.specs.Picked.{picked}
use Rattle.value_parts.specs.declared.lists.Lists.{Lists}

-- what the values of a part are compared by: their keys or their octets
abbrev pub octets_in : Bool → PartModel → List (List ℕ)
octets_in by_keys p = cond by_keys p.keys p.values

-- lists as one part
abbrev pub as_part : Lists → PartModel
as_part l = record { values = l.values.items; keys = l.keys.items; forms = l.forms.items }

-- the texts of a part are those of its values
abbrev pub HaveTexts : PartModel → Type 0
HaveTexts p = p.forms ≡ map form_of p.values

-- of octets, whether they are none of the given ones
abbrev pub are_beside : List (List ℕ) → List (List ℕ) → List Bool
are_beside given octets = map (λ x. not (list_any (bytes_eq x) given)) octets

-- the part without the values that are compared by one of the given octets
abbrev pub part_without : List (List ℕ) → Bool → PartModel → PartModel
part_without given by_keys p = record {
  values = picked (are_beside given (octets_in by_keys p)) p.values;
  keys = picked (are_beside given (octets_in by_keys p)) p.keys;
  forms = picked (are_beside given (octets_in by_keys p)) p.forms;
}
