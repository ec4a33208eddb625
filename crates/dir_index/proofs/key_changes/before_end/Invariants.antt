use Rattle.std.proofs.Common.{◌≡◌, ◌≤◌, ℕ, List, Bool, map, length, take}
use Rattle.std.specs.List.{list_any}
use Rattle.dir_index.proofs.key_changes.before_end.Given as goal

abbrev pub invariant-loop-earlier : goal.invariant-loop-earlier
invariant-loop-earlier l =
    record {
      earlier : l.earlier ≤ length l.before;
      later : l.later ≤ length l.after;
      same : (f : List ℕ → Bool) → list_any f (map (λ k. k.now) (take l.earlier l.before)) ≡ list_any f
          (map (λ k. k.now) (take l.later l.after)) → list_any f (map (λ k. k.now) l.before) ≡ list_any f
          (map (λ k. k.now) l.after);
    }

abbrev pub decreases-loop-earlier : goal.decreases-loop-earlier
decreases-loop-earlier l = l.earlier
