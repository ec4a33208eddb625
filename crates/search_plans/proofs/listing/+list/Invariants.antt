use Rattle.std.proofs.Common.{◌≡◌, ◌||◌, ℕ, List, take}
use Rattle.std.specs.List.{list_any}
use Rattle.dir_index.specs.Postings.{Lists}
use Rattle.search_plans.specs.Sets.{is_in}
use Rattle.search_plans.specs.private.Sets.{is_listed}
use Rattle.search_plans.proofs.listing.+list.Given as goal

abbrev pub invariant-push_each_listed-loop-i : goal.invariant-push_each_listed-loop-i
invariant-push_each_listed-loop-i l = record {
  same : (lists : Lists) (scope : List ℕ) (n : ℕ) → list_any (λ p. is_in lists scope p n) (take l.i l.plans) ≡
      list_any (λ p. is_in lists scope p n) (take l.i l.others);
  exact : (lists : Lists) (scope : List ℕ) (n : ℕ)
      → list_any (λ p. is_listed lists n p.now) l.into.items ≡
      (list_any (λ p. is_listed lists n p.now) l.fn.into.items || list_any (λ p. is_in lists scope p n)
      (take l.i l.plans));
}
