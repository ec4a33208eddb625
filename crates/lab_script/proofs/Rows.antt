-- Worked rows. Nothing is proved over all texts here.
use Rattle.std.proofs.Common.{◌≡◌, Some, None, codes, refl}
use Rattle.ldif.specs.ldap_msg.ldap_requests.declared.search.Scope.TheVariants.{SingleLevel}
use Rattle.lab_script.specs.Updates.{line_in, kind_of, add_kind}
use Rattle.lab_script.specs.Searches.{parts_of}

-- A piece without a colon and a space is no line.
no_line : line_in (codes "sn:x") ≡ None
no_line = refl

-- The filter is all behind the second bar.
bars : parts_of (codes "dc=x|one|(|(cn=a))") ≡ Some (record {
  base = codes "dc=x";
  scope = SingleLevel;
  filter =
      codes "(|(cn=a))";
})
bars = refl

-- A text is cut at its first space alone.
words : kind_of (codes "add cn=a b") ≡ add_kind (codes "cn=a b")
words = refl
