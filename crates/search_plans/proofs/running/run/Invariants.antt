use Rattle.std.proofs.Common.{◌≡◌, ◌+◌, ◌++◌, ◌≤◌, length}
use Rattle.search_plans.proofs.running.run.Given as goal

abbrev pub invariant-loop-number : goal.invariant-loop-number
invariant-loop-number g l = record {
  numbers : l.numbers.items ++ l.running.to_come ≡ l.initial.running.to_come;
  left_open : l.running.open_numbers ≡ l.initial.running.open_numbers;
  few : l.running.tests ≤ length l.running.open_numbers;
  counted : l.running.looks + l.initial.running.tests ≡ l.initial.running.looks + l.running.tests;
}

abbrev pub decreases-loop-number : goal.decreases-loop-number
decreases-loop-number g l = length l.running.to_come
