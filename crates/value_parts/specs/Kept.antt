-- What is kept of an attribute's values.
use Rattle.std.specs.Prelude.{ℕ, List, [], ◌∷◌}
use Rattle.std.specs.Arc.{arc_value}
use Rattle.ldap_match.specs.ldap_syntax.Forms.{FormModel}
use Rattle.value_parts.specs.Parts.{PartModel, whole}
use Rattle.value_parts.specs.declared.kept.StoredValues.{StoredValues}
use Rattle.value_parts.specs.declared.kept.StoredValues.TheVariants.{One, Many, Parts}

-- the values
abbrev pub values_in : StoredValues → List (List ℕ)
values_in (One value key form) = value ∷ []
values_in (Many lists) = (arc_value lists).values.items
values_in (Parts list) = (whole (arc_value list)).values

-- their keys
abbrev pub keys_in : StoredValues → List (List ℕ)
keys_in (One value key form) = key ∷ []
keys_in (Many lists) = (arc_value lists).keys.items
keys_in (Parts list) = (whole (arc_value list)).keys

-- the texts of each value
abbrev pub forms_in : StoredValues → List FormModel
forms_in (One value key form) = form ∷ []
forms_in (Many lists) = (arc_value lists).forms.items
forms_in (Parts list) = (whole (arc_value list)).forms

-- what is kept, as one part
abbrev pub part_of : StoredValues → PartModel
part_of h = record { values = values_in h; keys = keys_in h; forms = forms_in h }
