-- The rule of what is published: what each reader saw or was told of is a beginning of it.
use Rattle.std.specs.Prelude.{◌≡◌, ℕ, List, [], Bool, true, false}
use mathlib.Core.Option.{some}
use lib.ListN.{get_elem?}
use Rattle.state_machine.specs.Executing.{ExecutedValue}
use Rattle.dir_seats.specs.Lists.{IsBeginning}

-- what a reader knows: whether it saw or was told anything, and the longest that it saw or was told of
abbrev pub Floor : Type 0
Floor = Bool × ExecutedValue

-- what stands where nothing is known
abbrev pub nowhere : ExecutedValue
nowhere = record { schema = record { types = []; classes = [] }; suffix = []; indexes = []; records = [] }

-- a reader that knows nothing
abbrev pub newcomer : Floor
newcomer = (false, nowhere)

-- What is known, if anything, is a beginning.
abbrev pub Reaches : Floor → ExecutedValue → Type 0
Reaches floor v = floor.0 ≡ true → IsBeginning floor.1 v

-- What each reader knows is a beginning of what is published.
abbrev pub Keeps : ExecutedValue → List Floor → Type 0
Keeps v floors = (seat : ℕ) (floor : Floor) → get_elem? floors seat ≡ some floor → Reaches floor v

-- From then on what is published is known; what was known is a beginning of it.
abbrev pub Sees : Floor → ExecutedValue → ExecutedValue → Floor → Type 0
Sees floor before after now = Reaches floor after × (now ≡ (true, after))
