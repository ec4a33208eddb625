-- Parts that have what they need beside each value.
use Rattle.std.specs.Prelude.{Bool, cond, ◌&&◌, ◌==◌, length}
use Rattle.value_parts.specs.Parts.{PartModel}

-- whether a part has the texts of each value, and the key of each or no key
abbrev pub fits : Bool → PartModel → Bool
fits keyed p = (length p.forms == length p.values) && (length p.keys == cond keyed (length p.values) 0)
