-- What reading finds within the limits, and which limit it meets.
use Rattle.std.specs.Prelude.{◌≡◌, ℕ, suc, ◌+◌, ◌≤◌, ◌⊎◌, List, ◌++◌}
use Rattle.ldap_ber.specs.declared.message_fault.MsgFault.{MsgFault}
use Rattle.ldap_ber.specs.declared.message_fault.MsgFault.TheVariants.{TooLarge, NotAMessage, TooDeep, TooManyItems, NoMemory}
use Rattle.ldap_filter.specs.Tree.{Tree, Trees, counts}
use Rattle.ldap_filter.specs.Grammar.{IsFilter, AreFilters}
use Rattle.ldap_ber.specs.Fields.{HasField}

-- the first octet of some filter
abbrev pub IsOctet : ℕ → Type 0
IsOctet first = ((160 ≤ first) × (first ≤ 166)) ⊎ ((168 ≤ first) × (first ≤ 169)) ⊎ (first ≡ 135)

-- Along a front of the octets a filter begins that has so many around it, and so many before it or around it.
pub data Opens : ℕ → ℕ → List ℕ → Type 0 where
  here : {octets : List ℕ} → (first : ℕ) (content rest : List ℕ) → HasField octets first content rest →
      IsOctet first → Opens 0 0 octets
  under : {d k : ℕ} {octets : List ℕ} → (content rest : List ℕ) → HasField octets 162 content rest →
      Opens d k content → Opens (suc d) (suc k) octets
  along : {d k n : ℕ} {octets : List ℕ} → (first : ℕ) (content rest done after : List ℕ) (before : Trees) →
      HasField octets first content rest → (first ≡ 160) ⊎ (first ≡ 161)
      → content ≡ done ++ after → AreFilters before done → n ≡ counts before + k → Opens d k after →
      Opens (suc d) (suc n) octets

-- What a fault says of the filter at the front: none is there, or one opens too deep or after too many.
abbrev pub IsFault : MsgFault → ℕ → ℕ → List ℕ → Type 0
IsFault NotAMessage depth_limit items octets = (t : Tree) (spelling rest : List ℕ) → IsFilter t spelling →
    octets ≡ spelling ++ rest → ⊥
IsFault TooDeep depth_limit items octets = (k : ℕ) × Opens depth_limit k octets
IsFault TooManyItems depth_limit items octets = (d : ℕ) × Opens d items octets
IsFault NoMemory depth_limit items octets = Unit {0}
IsFault TooLarge depth_limit items octets = ⊥
