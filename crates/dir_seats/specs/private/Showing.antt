-- What a publisher shows, and what it is to show next: what contracts that aren't public say of it.
-- What public contracts say is in specs/Showing.
use Rattle.std.specs.Prelude.{◌≡◌, ℕ, List, true, length}
use Rattle.state_machine.specs.Executing.{ExecutedValue}
use Rattle.dir_seats.specs.Lists.{IsBeginning}
use Rattle.dir_seats.specs.Rule.{Floor}
use Rattle.dir_seats.specs.Showing.{latest}

-- A publisher knows what it shows; that begins the latest of the versions to come, which has so many records.
pub record HoldsVersions (floor : Floor) (shown : ExecutedValue) (nexts : List ExecutedValue) (count : ℕ) : Type 0 where
  pub known : floor ≡ (true, shown)
  pub begins : IsBeginning shown (latest shown nexts)
  pub records : count ≡ length (latest shown nexts).records
