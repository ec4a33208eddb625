-- The parts of an attribute's values, as contracts see them.
use Rattle.std.specs.Prelude.{◌+◌, ◌++◌, List, length, Option, None, Some}
use Rattle.value_parts.specs.Parts.{PartModel, PartsModel, whole}
use Rattle.value_parts.specs.declared.part.Part.{Part}

-- parts of a list, with one before them or none
abbrev pub parts_in : Option Part → List PartModel → PartsModel
parts_in None ps = record {
  values = (whole ps).values;
  keys = (whole ps).keys;
  forms = (whole ps).forms;
  count = length ps;
}
parts_in (Some p) ps = record {
  values = p.values.now ++ (whole ps).values;
  keys = p.keys.now ++ (whole ps).keys;
  forms = p.forms.now ++ (whole ps).forms;
  count = 1 + length ps;
}
