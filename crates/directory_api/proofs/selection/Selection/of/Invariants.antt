use Rattle.std.proofs.Common.{◌≡◌, ◌||◌, ℕ, map, take, string_bytes}
use Rattle.std.specs.List.{list_any}
use Rattle.directory_api.specs.Selection.{is_selected_by}
use Rattle.directory_api.specs.private.Resolved.{is_none, picks}
use Rattle.directory_api.proofs.selection.Selection.of.Given as goal

-- what the selectors so far select; all, where there is none at all
abbrev pub invariant-loop-selector : goal.invariant-loop-selector
invariant-loop-selector l = (t : ℕ) → picks l.schema l.selection t ≡
    (is_none l.selectors || list_any (is_selected_by l.schema t) (map string_bytes (take l.selector-index l.selectors)))
