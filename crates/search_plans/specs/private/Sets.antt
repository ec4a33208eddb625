-- The sets that plans mean: what contracts that aren't public say of it.
-- What public contracts say is in specs/Sets.
use Rattle.std.specs.Prelude.{◌≡◌, ℕ, ◌≤◌, Bool, List, filter}
use Rattle.dir_index.specs.Postings.{Lists, has_number}
use Rattle.dir_index.specs.declared.posting.Posting.{Posting}
use Rattle.search_plans.specs.declared.plan.Plan.{Plan}
use Rattle.search_plans.specs.Sets.{in_plan, is_in}

-- the same where it is known whether the number is in scope
abbrev pub is_in_when : Lists → Bool → Plan → ℕ → Bool
is_in_when kept in_scope p n = in_plan in_scope (λ x. has_number n (kept.posting x))
    (λ r. has_number n (kept.range r)) p

-- whether a posting's list has a number
abbrev pub is_listed : Lists → ℕ → Posting → Bool
is_listed kept n p = has_number n (kept.posting p)

-- the set of a plan within the scope, in order
abbrev pub plan_set : Lists → List ℕ → Plan → List ℕ
plan_set kept scope p = filter (is_in kept scope p) scope

-- two sets have the same of the numbers from one on
abbrev pub AreSameFrom : ℕ → (ℕ → Bool) → (ℕ → Bool) → Type 0
AreSameFrom least one other = (n : ℕ) → least ≤ n → one n ≡ other n
