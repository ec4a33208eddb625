use Rattle.std.proofs.Common.{◌≡◌, ◌-◌, ◌≤◌, ℕ, List, Bool, map, length, drop}
use Rattle.std.specs.List.{list_any}
use Rattle.dir_index.proofs.key_changes.common_front.Given as goal

abbrev pub invariant-loop-count : goal.invariant-loop-count
invariant-loop-count l =
    record {
      earlier : l.count ≤ length l.before;
      later : l.count ≤ length l.after;
      same : (f : List ℕ → Bool) → list_any f (map (λ k. k.now) (drop l.count l.before)) ≡ list_any f
          (map (λ k. k.now) (drop l.count l.after)) → list_any f (map (λ k. k.now) l.before) ≡ list_any f
          (map (λ k. k.now) l.after);
    }

abbrev pub decreases-loop-count : goal.decreases-loop-count
decreases-loop-count l = length l.before - l.count
