-- Digests of relative names: numbers that tell most of them apart. RFC 4512 2.3.2 (names are told apart by types and
-- keys alone).
use Rattle.std.specs.Prelude.{ℕ, ◌+◌, ◌*◌, ◌%◌, ◌^◌, List, [], ◌∷◌}
use Rattle.ldap_dn.specs.Names.{TypeAndKey}

-- a digest with numbers more: a polynomial over them, modulo 2^64
abbrev pub digest_on : ℕ → List ℕ → ℕ
digest_on d [] = d
digest_on d (x ∷ xs) = digest_on ((d * 11400714819323198485 % 2 ^ 64 + x) % 2 ^ 64) xs

-- a digest with types and keys more, each type before its key's octets
abbrev pub digest_with : ℕ → List TypeAndKey → ℕ
digest_with d [] = d
digest_with d (k ∷ ks) = digest_with (digest_on d (k.kind ∷ k.key)) ks

-- the digest of types with keys
abbrev pub digest_of : List TypeAndKey → ℕ
digest_of = digest_with 0
