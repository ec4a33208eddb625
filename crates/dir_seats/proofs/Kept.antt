-- Each step keeps the rule.
use Rattle.std.proofs.Common.{◌≡◌, ℕ, ◌≢◌, List, true, set, refl, subst, ⊎_elim}
use Rattle.std.proofs.lemmas.Bool.{false≢true}
use mathlib.Core.Option.{some}
use lib.ListN.{get_elem?}
use Rattle.crossbeam_utils.specs.Register.{Admits, TurnsAt, Forks, Merges}
use Rattle.atomic_table.proofs.Lists.{at_set, at_snoc}
use Rattle.dir_seats.specs.state_machine.Executing.{ExecutedValue}
use Rattle.dir_seats.specs.Lists.{IsBeginning}
use Rattle.dir_seats.specs.Rule.{Floor, Keeps, Sees, Reaches, newcomer}
use Rattle.dir_seats.proofs.Begins.{begins_self, begins_trans}

-- who knows nothing reaches anything
reaches_new : (v : ExecutedValue) (floor : Floor) → newcomer ≡ floor → Reaches floor v
reaches_new v floor e = subst (λ (f : Floor). Reaches f v) e (λ h. absurd (false≢true h))

reaches_is : (v : ExecutedValue) (a b : Floor) → a ≡ b → Reaches a v → Reaches b v
reaches_is v a b e r = subst (λ (f : Floor). Reaches f v) e r

reaches_more : (x y : ExecutedValue) (floor : Floor) → IsBeginning x y → Reaches floor x → Reaches floor y
reaches_more x y floor up r known = begins_trans floor.1 x y (r known) up

-- a new reader knows nothing
pub admits : Admits Keeps newcomer
admits v floors h seat floor at = ⊎_elim (h seat floor) (λ (e : newcomer ≡ floor). reaches_new v floor e)
    (at_snoc floors newcomer floor seat at)

-- a step of a reader from a value to one that it begins
pub sees : (seat : ℕ) (floor : Floor) (x y : ExecutedValue) → IsBeginning x y → TurnsAt Keeps seat floor x y Sees
sees seat floor x y up floors h at = (
  (true, y),
  (λ j l e. ⊎_elim (λ (t : (j ≡ seat) × ((true, y) ≡ l)). reaches_is y (true, y) l t.1 (λ _. begins_self y))
      (λ (t : (j ≢ seat) × (get_elem? floors j ≡ some l)). reaches_more x y l up (h j l t.1))
      (at_set floors seat j (true, y) l e)),
  (reaches_more x y floor up (h seat floor at), refl),
)

set_kept : (v : ExecutedValue) (floors : List Floor) (seat : ℕ) (floor : Floor) → Keeps v floors → Reaches floor v →
    Keeps v (set floors seat floor)
set_kept v floors seat floor h low j l e =
    ⊎_elim (λ (t : (j ≡ seat) × (floor ≡ l)). reaches_is v floor l t.1 low)
    (λ (t : (j ≢ seat) × (get_elem? floors j ≡ some l)). h j l t.1) (at_set floors seat j floor l e)

-- the writer keeps what it knows, and a new reader knows it too
pub forks : (seat : ℕ) (floor : Floor) → Forks Keeps seat floor floor floor
forks seat floor v floors h at j l e =
    ⊎_elim (set_kept v floors seat floor h (h seat floor at) j l) (λ (same : floor ≡ l). reaches_is v floor l same
    (h seat floor at)) (at_snoc (set floors seat floor) floor l j e)

-- a reader takes over what another knows
pub merges : (seat : ℕ) (floor : Floor) (other : ℕ) (told : Floor) → Merges Keeps seat floor other told told newcomer
merges seat floor other told v floors h at apart there =
    let low : Reaches told v =
    ⊎_elim (λ (t : (other ≡ seat) × (told ≡ told)). absurd (apart t.0))
    (λ (t : (other ≢ seat) × (get_elem? floors other ≡ some told)). h other told t.1)
    (at_set floors seat other told told there) in
    set_kept v (set floors seat told) other newcomer (set_kept v floors seat told h low) (reaches_new v newcomer refl)
