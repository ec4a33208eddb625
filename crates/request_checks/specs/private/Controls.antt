-- The controls of a request: what contracts that aren't public say of it.
-- What public contracts say is in specs/Controls.
use Rattle.std.specs.Prelude.{List, [], ◌∷◌}
use Rattle.ldap_msg.specs.ldap_parts.Values.{ControlValue}

-- two controls or more
abbrev pub AreRepeated : List ControlValue → Type 0
AreRepeated [] = ⊥
AreRepeated (c ∷ []) = ⊥
AreRepeated (c ∷ d ∷ cs) = Unit {0}
