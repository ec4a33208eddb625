-- The octets of a greeting.
use Rattle.std.specs.Prelude.{ℕ, List, [], ◌∷◌, ◌++◌}
use Rattle.view_store.specs.Cluster.{cluster_octets}
use Rattle.peer_link.specs.Claims.{claim_octets}
use Rattle.peer_link.specs.declared.claim.Claim.{Claim}
use Rattle.peer_link.specs.declared.terms.Terms.{Terms}

-- the length behind it, the version of frames, the cluster, the kind and the sender
abbrev pub heading_octets : ℕ → ℕ → List ℕ
heading_octets cluster sender = 0 ∷ 0 ∷ 0 ∷ 146 ∷ 2 ∷ (cluster_octets cluster ++ 14 ∷ sender ∷ [])

-- the same of a greeting of version 0.2.0, which ends behind the digests
abbrev pub earlier_octets : ℕ → ℕ → List ℕ
earlier_octets cluster sender = 0 ∷ 0 ∷ 0 ∷ 105 ∷ 2 ∷ (cluster_octets cluster ++ 14 ∷ sender ∷ [])

-- the digests, one after the other
abbrev pub terms_octets : Terms → List ℕ
terms_octets terms = terms.schema ++ (terms.suffix ++ terms.clients)

-- the greeting of a start of this sender in this cluster
abbrev pub greeting_octets : ℕ → ℕ → Terms → Claim → List ℕ
greeting_octets cluster sender terms claim = (heading_octets cluster sender ++ terms_octets terms) ++ claim_octets claim
