-- What stands at the front of octets, as a framer finds it.
use Rattle.std.specs.Prelude.{◌≡◌, ℕ, ◌≤◌, List, [], ◌∷◌, length, take}
use Rattle.ldap_msg.specs.View.{view}
use Rattle.ldap_framer.specs.Stream.{IsWhole, IsAwaited, IsStop}
use Rattle.ldap_framer.specs.declared.finding.Finding.{Finding}
use Rattle.ldap_framer.specs.declared.finding.Finding.TheVariants.{Whole, Awaited, Stopped}

-- The first octet is the first octet of a message.
abbrev pub BeginsFrame : List ℕ → Type 0
BeginsFrame [] = ⊥
BeginsFrame (a ∷ bs) = a ≡ 48

-- A finding is true of octets.
abbrev pub IsTrueOf : Finding → List ℕ → Type 0
IsTrueOf (Whole m size) octets = (size ≤ length octets) × IsWhole (take size octets) (view m)
IsTrueOf Awaited octets = IsAwaited octets
IsTrueOf (Stopped fault) octets = IsStop fault octets
