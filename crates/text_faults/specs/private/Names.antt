-- What is wrong with a text that is no name's (RFC 4514 3): what contracts that aren't public say of it.
-- What public contracts say is in specs/Names.
use Rattle.std.specs.Prelude.{Option, None, Some}
use Rattle.ldap_match.specs.ldap_dn.declared.token.Scan.{Scan}
use Rattle.ldap_match.specs.ldap_dn.declared.token.Scan.TheVariants as scan
use Rattle.ldap_match.specs.ldap_dn.declared.token.Step.{Step}
use Rattle.ldap_match.specs.ldap_dn.declared.token.Step.TheVariants as step
use Rattle.text_faults.specs.declared.names.Escape.{Escape}
use Rattle.text_faults.specs.declared.names.Escape.TheVariants as escape

-- where the reader of names is with an escape
abbrev pub scan_of : Escape → Scan
scan_of escape.Outside = scan.Between
scan_of escape.Begun = scan.Escape
scan_of (escape.Half digit) = scan.Half digit

-- where it goes from there
abbrev pub goes_to : Step → Option Scan
goes_to step.Refuses = None
goes_to (step.Reads next) = Some next
goes_to (step.Gives token) = Some scan.Between
