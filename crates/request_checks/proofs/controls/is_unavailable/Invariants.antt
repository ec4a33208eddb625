use Rattle.std.proofs.Common.{◌≡◌, map, drop}
use Rattle.ldap_msg.specs.ldap_parts.View.{control_view}
use Rattle.request_checks.specs.Controls.{is_unavailable}
use Rattle.request_checks.proofs.controls.is_unavailable.Given as goal

-- so far no control is critical without a meaning
abbrev pub invariant-loop-control : goal.invariant-loop-control
invariant-loop-control l = is_unavailable l.kind (map control_view (drop l.control-index l.controls)) ≡ is_unavailable
    l.kind (map control_view l.controls)
