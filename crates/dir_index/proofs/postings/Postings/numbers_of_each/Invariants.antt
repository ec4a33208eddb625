use Rattle.std.proofs.Common.{◌≡◌, ◌++◌, drop, map, []}
use Rattle.std.specs.Prelude.{option_copied, unwrap_or}
use Rattle.dir_index.proofs.postings.Postings.numbers_of_each.Given as goal

abbrev pub invariant-loop-one : goal.invariant-loop-one
invariant-loop-one l = map (λ s. s.now) l.sets.items ++ map (λ o. unwrap_or (option_copied o) [])
    (drop l.one-index l.one-items) ≡ map (λ o. unwrap_or (option_copied o) []) l.one-items
