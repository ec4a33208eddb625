-- Lines of hex.
use Rattle.std.specs.Prelude.{ℕ, List, [], ◌∷◌, ◌++◌}
use Rattle.hex.specs.Hex.{encode_lower}
use Rattle.ldap_msg.specs.Messages.{MessageValue}
use Rattle.ldap_msg.specs.Written.{message_bytes}

-- octets as a line of lower-case hex
abbrev pub hex_line : List ℕ → List ℕ
hex_line octets = encode_lower octets ++ 10 ∷ []

-- messages, each in its written form as a line
abbrev pub message_lines : List MessageValue → List ℕ
message_lines [] = []
message_lines (m ∷ ms) = hex_line (message_bytes m) ++ message_lines ms
