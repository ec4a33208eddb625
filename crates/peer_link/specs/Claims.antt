-- What a replica says of its own start, and its octets.
use Rattle.std.specs.Prelude.{◌≡◌, ◌<◌, ◌^◌, ℕ, Bool, true, false, List, ◌∷◌, ◌++◌, take, drop, nat_lt, slice_index}
use Rattle.std.specs.Int.{w64, to_be_bytes, from_be_bytes}
use Rattle.peer_link.specs.declared.claim.Claim.{Claim}

-- a number in eight octets, the most significant first
unfoldable pub numeral : ℕ → List ℕ
numeral n = to_be_bytes w64 n

-- 1 for yes, 0 for no
abbrev pub flag : Bool → ℕ
flag true = 1
flag false = 0

-- the start's number and mark, whether it remembers, and its view, last normal view and length of log
abbrev pub claim_octets : Claim → List ℕ
claim_octets c = (numeral c.start ++ numeral c.mark) ++ (flag
    c.remembers ∷ ((numeral c.view ++ numeral c.last_normal) ++ numeral c.length))

-- the number in the eight octets from a place on
abbrev pub number_at : ℕ → List ℕ → ℕ
number_at at octets = from_be_bytes w64 (take 8 (drop at octets))

-- the octet that says whether anything is remembered: 0 or 1
abbrev pub flag_in : List ℕ → ℕ
flag_in octets = slice_index octets 16

-- the claim that 41 octets spell
abbrev pub claim_in : List ℕ → Claim
claim_in octets = record {
  start = number_at 0 octets;
  mark = number_at 8 octets;
  remembers = nat_lt 0 (flag_in octets);
  view = number_at 17 octets;
  last_normal = number_at 25 octets;
  length = number_at 33 octets;
}

-- numbers of 64 bits
pub record IsInRange (c : Claim) : Type 0 where
  pub start : c.start < 2 ^ 64
  pub mark : c.mark < 2 ^ 64
  pub view : c.view < 2 ^ 64
  pub last_normal : c.last_normal < 2 ^ 64
  pub length : c.length < 2 ^ 64

-- The octets of a claim are read as that claim.
abbrev pub ClaimsAreRead : Type 0
ClaimsAreRead = (c : Claim) → IsInRange c → claim_in (claim_octets c) ≡ c
