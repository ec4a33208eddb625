-- What contracts that aren't public say of it. What public contracts say is in specs/Written.
use Rattle.std.specs.Prelude.{ℕ, List, ◌++◌}
use Rattle.ldap_requests.specs.ldap_ber.Written.{number_bytes}

-- the content of a message, around the octets of its operation and of its controls
abbrev pub enveloped : ℕ → List ℕ → List ℕ → List ℕ
enveloped id operation controls = number_bytes 2 id ++ operation ++ controls
