-- What is missing at look after look counts from the first of them.
use Rattle.std.proofs.Common.{◌≡◌, ℕ, ◌+◌, ◌-◌, ◌<◌, ◌≤◌, List, [], ◌∷◌, Bool, true, false, Option, None, Some, refl, ap, ◌∙◌, arith}
use Rattle.std.proofs.lemmas.Bool.{le-leb, lt-leb}
use Rattle.replica_clock.specs.Lack.{LackValue, ALastingLackIsFound, AShortLackIsNone, first_since, is_too_long, looked, missing_at}

-- once it is missing, further looks leave since when
stays : (moments : List ℕ) (l : LackValue) (first : ℕ) → l.since ≡ Some first → (missing_at moments l).since ≡
    Some first
stays [] l first e = e
stays (now ∷ moments) l first e = stays moments (looked l true now) first
    (ap (λ (o : Option ℕ). Some (first_since o now)) e)

-- since when it is missing
from_first : (l : LackValue) (before first : ℕ) (moments : List ℕ) →
    (missing_at (first ∷ moments) (looked l false before)).since ≡ Some first
from_first l before first moments = stays moments (looked (looked l false before) true first) first refl

pub lasting : ALastingLackIsFound
lasting l before first moments now late =
    ap (λ (o : Option ℕ). is_too_long o l.limit now) (from_first l before first moments)
    ∙ le-leb l.limit (now - first) (omega (arith, late))

pub short : AShortLackIsNone
short l before first moments now early some =
    ap (λ (o : Option ℕ). is_too_long o l.limit now) (from_first l before first moments)
    ∙ lt-leb l.limit (now - first) (omega (arith, early, some))
