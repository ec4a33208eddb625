use Rattle.std.proofs.Common.{◌≡◌, ◌++◌, drop}
use Rattle.std.specs.Ordering.{nat_cmp}
use Rattle.std.specs.Cmp.Lexicographic.{slice_cmp}
use Rattle.ldap_syntax.specs.Styles.{text_by}
use Rattle.ldap_syntax.proofs.plain.order_of.Given as goal

-- what is left of the octets stands to what is left of the key as all stand
abbrev pub invariant-loop-octet : goal.invariant-loop-octet
invariant-loop-octet l = slice_cmp nat_cmp (text_by l.style (drop l.octet-index l.octets) ++ l.behind) l.rest ≡
    slice_cmp nat_cmp (text_by l.style l.octets ++ l.behind) l.key
