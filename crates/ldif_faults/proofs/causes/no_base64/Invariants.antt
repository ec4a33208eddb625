use Rattle.std.proofs.Common.{◌≡◌, drop, not, slice_get}
use Rattle.std.specs.List.{filter}
use Rattle.ldif_faults.specs.Causes.{is_base64}
use Rattle.ldif_faults.proofs.causes.no_base64.Given as goal

abbrev pub invariant-loop-octet : goal.invariant-loop-octet
invariant-loop-octet l =
    slice_get (filter (λ octet. not (is_base64 octet)) (drop l.octet-index l.value)) 0 ≡
    slice_get (filter (λ octet. not (is_base64 octet)) l.value) 0
