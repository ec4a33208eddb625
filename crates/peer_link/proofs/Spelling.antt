-- Octets of claims and refusals.
use Rattle.std.proofs.Common.{◌≡◌, Bool, true, false, nat_lt, Some, refl, ◌∙◌}
use Rattle.std.specs.Int.{w64, to_be_bytes, from_be_bytes}
use Rattle.std.proofs.lemmas.Nat.{from_be_bytes-to_be_bytes_8}
use Rattle.peer_link.specs.declared.claim.Claim.{Claim}
use Rattle.peer_link.specs.declared.past.Forgotten.TheVariants as forgotten
use Rattle.peer_link.specs.Claims.{numeral, flag, claim_octets, claim_in, ClaimsAreRead}
use Rattle.peer_link.specs.Refusals.{RefusalsAreRead}

flag_is : (b : Bool) → nat_lt 0 (flag b) ≡ b
flag_is true = refl
flag_is false = refl

numbers_are : (c : Claim) → claim_in (claim_octets c) ≡ record {
  start = from_be_bytes w64 (to_be_bytes w64 c.start);
  mark = from_be_bytes w64 (to_be_bytes w64 c.mark);
  remembers = nat_lt 0 (flag c.remembers);
  view = from_be_bytes w64 (to_be_bytes w64 c.view);
  last_normal = from_be_bytes w64 (to_be_bytes w64 c.last_normal);
  length = from_be_bytes w64 (to_be_bytes w64 c.length);
}
unfolding numeral
numbers_are c = refl

pub claims_read : ClaimsAreRead
claims_read c range = numbers_are c ∙ (λ i. record {
  start = from_be_bytes-to_be_bytes_8 c.start range.start i;
  mark = from_be_bytes-to_be_bytes_8 c.mark range.mark i;
  remembers = flag_is c.remembers i;
  view = from_be_bytes-to_be_bytes_8 c.view range.view i;
  last_normal = from_be_bytes-to_be_bytes_8 c.last_normal range.last_normal i;
  length = from_be_bytes-to_be_bytes_8 c.length range.length i;
})

pub refusals_read : RefusalsAreRead
refusals_read (forgotten.Start said) small = λ i. Some (forgotten.Start (from_be_bytes-to_be_bytes_8 said small i))
refusals_read (forgotten.View said) small = λ i. Some (forgotten.View (from_be_bytes-to_be_bytes_8 said small i))
refusals_read (forgotten.Log said) small = λ i. Some (forgotten.Log (record {
  last_normal = from_be_bytes-to_be_bytes_8 said.last_normal small.0 i;
  length = from_be_bytes-to_be_bytes_8 said.length small.1 i;
}))
