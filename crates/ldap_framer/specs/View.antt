-- The value that a framer stands for.
use Rattle.std.specs.Prelude.{ℕ, ◌+◌, map, length}
use Rattle.ldap_msg.specs.View.{view}
use Rattle.ldap_framer.specs.Framed.{Framed}
use Rattle.ldap_framer.specs.declared.framer.Framer.{Framer}

-- the messages that wait, the octets behind them, the fault
abbrev pub framed : Framer → Framed
framed f = record { ready = map view f.ready.items; rest = f.buffer.items; fault = f.fault }

-- how many octets of memory it keeps for octets that begin a message
abbrev pub room_of : Framer → ℕ
room_of f = length f.buffer.items + f.buffer.spare
