-- What another replica's greeting says beside one's own terms.
use Rattle.std.specs.Prelude.{◌≡◌, ◌≢◌, ◌⊎◌, ◌+◌, ◌≤◌, ℕ, List, [], take, drop, length, Option, Some, None, Result, Ok, Err}
use Rattle.vr_wire.specs.declared.error.WireError.{WireError}
use Rattle.vr_wire.specs.declared.error.WireError.TheVariants as error
use Rattle.peer_link.specs.Claims.{claim_in, flag_in}
use Rattle.peer_link.specs.declared.claim.Claim.{Claim}
use Rattle.peer_link.specs.declared.terms.Terms.{Terms}
use Rattle.peer_link.specs.declared.terms.Term.{Term}
use Rattle.peer_link.specs.declared.terms.Term.TheVariants as term
use Rattle.peer_link.specs.declared.meeting.Heading.{Heading}
use Rattle.peer_link.specs.declared.meeting.Met.{Met}
use Rattle.peer_link.specs.declared.meeting.Met.TheVariants as met
use Rattle.peer_link.specs.Greeting.{earlier_octets, heading_octets, terms_octets}

-- no greeting of this cluster begins so
abbrev pub IsForeign : ℕ → List ℕ → Type 0
IsForeign cluster first = (sender : ℕ) → ((first ≡ heading_octets cluster sender)
    ⊎ (first ≡ earlier_octets cluster sender)) → ⊥

-- A heading of this cluster: digests and a claim stand behind it, or digests alone, as in version 0.2.0.
abbrev pub IsHeading : ℕ → List ℕ → Heading → Type 0
IsHeading cluster first h = ((first ≡ heading_octets cluster h.sender) × (h.behind ≡ 137))
    ⊎ ((first ≡ earlier_octets cluster h.sender) × (h.behind ≡ 96))

-- what the first octets say: a heading of this cluster; or no greeting begins so, or none of this cluster
abbrev pub Heads : ℕ → List ℕ → Result Heading WireError → Type 0
Heads cluster first (Ok h) = IsHeading cluster first h
Heads cluster first (Err error.BadFrame) = (other : ℕ) → IsForeign other first
Heads cluster first (Err error.ForeignFrame) = IsForeign cluster first
Heads cluster first (Err error.NoMemory) = ⊥

-- each digest in its place
abbrev pub schema_in : List ℕ → List ℕ
schema_in digests = take 32 digests

-- the digest of the suffix, the second one
abbrev pub suffix_in : List ℕ → List ℕ
suffix_in digests = take 32 (drop 32 digests)

-- the digest of the clients' addresses, the third one
abbrev pub clients_in : List ℕ → List ℕ
clients_in digests = drop 32 (drop 32 digests)

-- the first term that these digests have otherwise, or none
abbrev pub HasFirst : List ℕ → Terms → Option Term → Type 0
HasFirst digests own None = digests ≡ terms_octets own
HasFirst digests own (Some term.Schema) = (schema_in digests ≡ own.schema) → ⊥
HasFirst digests own (Some term.Suffix) = (schema_in digests ≡ own.schema) × ((suffix_in digests ≡ own.suffix) → ⊥)
HasFirst digests own (Some term.Clients) =
    (schema_in digests ≡ own.schema) × (suffix_in digests ≡ own.suffix) × ((clients_in digests ≡ own.clients) → ⊥)

-- What stands behind the digests: nothing, or a claim, or what is neither.
abbrev pub HasClaim : List ℕ → Result (Option Claim) WireError → Type 0
HasClaim octets (Ok None) = octets ≡ []
HasClaim octets (Ok (Some claim)) = (length octets ≡ 41) × (claim ≡ claim_in octets) × (flag_in octets ≤ 1)
HasClaim octets (Err error.BadFrame) = (octets ≢ []) × ((length octets ≢ 41) ⊎ (1 + 1 ≤ flag_in octets))
HasClaim octets (Err e) = ⊥

-- What stands behind a heading says: the terms are alike, and then comes what the start says of itself; or the named
-- term is otherwise, and those before it are alike; or neither digests nor a claim stand there.
abbrev pub MeetsSender : ℕ → List ℕ → Terms → Result Met WireError → Type 0
MeetsSender sender behind own (Ok (met.Alike from claim)) =
    (from ≡ sender) × (take 96 behind ≡ terms_octets own) × HasClaim (drop 96 behind) (Ok claim)
MeetsSender sender behind own (Ok (met.Other from term)) = (from ≡ sender) × HasFirst (take 96 behind) own (Some term)
MeetsSender sender behind own (Err error.BadFrame) = (length behind ≤ 95) ⊎ HasClaim (drop 96 behind)
    (Err error.BadFrame)
MeetsSender sender behind own (Err e) = ⊥

-- A greeting of a sender of this cluster, of this version or of version 0.2.0, says this.
pub record IsGreeting (cluster sender : ℕ) (frame : List ℕ) (own : Terms) (met : Met) : Type 0 where
  pub heading : Heading
  pub headed : IsHeading cluster (take 13 frame) heading
  pub from : heading.sender ≡ sender
  pub long : length (drop 13 frame) ≡ heading.behind
  pub behind : MeetsSender sender (drop 13 frame) own (Ok met)

-- Why a frame is no greeting of this cluster: it is too short for any, or no greeting begins so, or it isn't as long as
-- its heading says, or what stands behind the digests is no claim.
abbrev pub IsNoGreeting : ℕ → List ℕ → Type 0
IsNoGreeting cluster frame = (length (drop 13 frame) ≤ 95)
    ⊎ ((other : ℕ) → IsForeign other (take 13 frame))
    ⊎ ((h : Heading) × IsHeading cluster (take 13 frame) h × (length (drop 13 frame) ≢ h.behind))
    ⊎ HasClaim (drop 96 (drop 13 frame)) (Err error.BadFrame)

-- What a frame says: it is a greeting of a start of a replica with these terms; or one of this cluster with the named
-- term otherwise, and those before it alike; or no greeting, or none of this cluster.
abbrev pub HasMet : ℕ → List ℕ → Terms → Result Met WireError → Type 0
HasMet cluster frame own (Ok (met.Alike sender claim)) = IsGreeting cluster sender frame own (met.Alike sender claim)
HasMet cluster frame own (Ok (met.Other sender term)) = IsGreeting cluster sender frame own (met.Other sender term)
HasMet cluster frame own (Err error.BadFrame) = IsNoGreeting cluster frame
HasMet cluster frame own (Err error.ForeignFrame) = IsForeign cluster (take 13 frame)
HasMet cluster frame own (Err error.NoMemory) = ⊥
