use Rattle.std.proofs.Common.{◌≡◌, map, take, false, string_bytes}
use Rattle.std.specs.List.{list_any}
use Rattle.std.specs.Str.{str_eq_ignore_ascii_case}
use Rattle.directory_api.proofs.shows.is_asked.Given as goal

-- none of the selectors so far is the name
abbrev pub invariant-loop-selector : goal.invariant-loop-selector
invariant-loop-selector l = list_any (str_eq_ignore_ascii_case l.description)
    (map string_bytes (take l.selector-index l.selectors)) ≡ false
