-- Messages that are short.
use Rattle.std.specs.Prelude.{◌≤◌, length}
use Rattle.ldap_op.specs.Values.{OpValue}
use Rattle.ldap_op.specs.Written.{op_bytes, HasNoSpelling}
use Rattle.vr_state.specs.Words.{LogEntry}
use Rattle.vr_state.specs.declared.message.PeerMessage.{PeerMessage}
use Rattle.vr_state.specs.declared.message.PeerMessage.TheVariants.{Prepare, PrepareOk, Commit}

-- its update has few octets
abbrev pub IsShortRecord : LogEntry OpValue → Type 0
IsShortRecord e = length (op_bytes e.payload) ≤ 4096

-- A PREPARE of a short update, a PREPAREOK or a COMMIT. They have no log, and no note goes with them.
abbrev pub IsShort : PeerMessage OpValue → Type 0
IsShort (Prepare v e p x) = IsShortRecord e
IsShort (PrepareOk v p) = Unit {0}
IsShort (Commit v p) = Unit {0}
IsShort _ = ⊥

-- a PREPARE whose update no octets are read as
abbrev pub IsUnspelled : PeerMessage OpValue → Type 0
IsUnspelled (Prepare v e p x) = HasNoSpelling e.payload
IsUnspelled _ = ⊥
