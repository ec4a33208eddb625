use Rattle.std.proofs.Common.{◌≡◌, ◌++◌, map, filter, drop}
use Rattle.std.specs.Option.{option_map, option_copied, option_to_list}
use Rattle.ldap_msg.specs.ldap_parts.View.{control_view}
use Rattle.request_checks.specs.Controls.{is_of}
use Rattle.request_checks.proofs.controls.given.Given as goal

-- the control that was found, and those of the type that are left, are those of the type
abbrev pub invariant-loop-control : goal.invariant-loop-control
invariant-loop-control l =
    option_to_list (option_map control_view (option_copied l.found)) ++ filter (is_of l.oid)
    (map control_view (drop l.control-index l.controls))
    ≡ filter (is_of l.oid) (map control_view l.controls)
