-- Runs of three octets: what contracts that aren't public say of it.
-- What public contracts say is in specs/OctetRuns.
use Rattle.std.specs.Prelude.{ℕ, List, map}
use Rattle.dir_index.specs.declared.posting.Posting.TheVariants as posting
use Rattle.search_plans.specs.declared.plan.Plan.{Plan}
use Rattle.search_plans.specs.declared.plan.Plan.TheVariants as plan

-- for each run the posting list of the entries that hold it
abbrev pub run_plans : ℕ → List (List ℕ) → List Plan
run_plans t gs = map (λ g. plan.Posting (posting.Run t g)) gs
