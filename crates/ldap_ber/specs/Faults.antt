-- What a fault says of the octets.
use Rattle.ldap_ber.specs.declared.message_fault.MsgFault.{MsgFault}
use Rattle.ldap_ber.specs.declared.message_fault.MsgFault.TheVariants.{TooLarge, NotAMessage, TooDeep, TooManyItems, NoMemory}

-- A fault of a reader without limits: the octets are not in the grammar, or memory ran out.
abbrev pub IsPlainFault : MsgFault → Type 0 → Type 0
IsPlainFault NotAMessage InGrammar = InGrammar → ⊥
IsPlainFault NoMemory InGrammar = Unit {0}
IsPlainFault TooLarge InGrammar = ⊥
IsPlainFault TooDeep InGrammar = ⊥
IsPlainFault TooManyItems InGrammar = ⊥
