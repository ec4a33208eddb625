-- Who asks for an update.
use Rattle.std.specs.Prelude.{ℕ, ◌+◌, min}
use Rattle.ldap_op.specs.log_entry.declared.words.Client.{Client}

-- the client that a request names
abbrev pub named_client : ℕ → Client
named_client number = record { home = 0; life = 0; number = number }

-- a session's own client; replicas are counted from 1, to 255
abbrev pub session_client : ℕ → ℕ → ℕ → Client
session_client replica restarts session = record { home = min (replica + 1) 255; life = restarts; number = session }
