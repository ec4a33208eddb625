-- Updates, records and logs that aren't found alike: they differ, or there are no octets to compare them by.
use Rattle.std.specs.Prelude.{◌≢◌, ◌⊎◌, List, ◌∷◌}
use Rattle.ldap_op.specs.Values.{OpValue}
use Rattle.ldap_op.specs.Written.{HasNoSpelling}
use Rattle.vr_state.specs.Words.{LogEntry}

-- Two records differ, or the update of one of them has no spelling.
abbrev pub AreApart : LogEntry OpValue → LogEntry OpValue → Type 0
AreApart one other = (one ≢ other) ⊎ (HasNoSpelling one.payload ⊎ HasNoSpelling other.payload)

-- Two logs come apart at once: their first records do, or one of the logs has no record.
abbrev pub ComeApart : List (LogEntry OpValue) → List (LogEntry OpValue) → Type 0
ComeApart (x ∷ xs) (y ∷ ys) = AreApart x y
ComeApart xs ys = Unit {0}
