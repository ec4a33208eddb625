use Rattle.std.proofs.Common.{◌≡◌, ◌≤◌, drop, Some}
use Rattle.ldap_words.specs.Numbers.{greatest, number_after}
use Rattle.ldap_words.proofs.numbering.number_of_digits.Given as goal

-- so far it is the number of these digits
abbrev pub invariant-loop-octet : goal.invariant-loop-octet
invariant-loop-octet l = record {
  read : number_after (Some l.number) (drop l.octet-index l.text) ≡ number_after (Some 0) l.text;
  small : l.number ≤ greatest;
}
