use Rattle.std.proofs.Common.{◌≡◌, ◌++◌, take, drop}
use Rattle.request_checks.specs.Numbers.{before_colon, behind_colon}
use Rattle.request_checks.proofs.numbers.colon_place.Given as goal

-- so far there is no colon
abbrev pub invariant-loop-place : goal.invariant-loop-place
invariant-loop-place l = record {
  before : take l.place l.text ++ before_colon (drop l.place l.text) ≡ before_colon l.text;
  behind : behind_colon (drop l.place l.text) ≡ behind_colon l.text;
}
