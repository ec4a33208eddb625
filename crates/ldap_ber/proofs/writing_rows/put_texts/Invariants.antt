-- What the loops of `put_texts` keep, and what grows less.
use Rattle.std.proofs.Common.{◌≡◌, ◌++◌, take, map}
use Rattle.std.specs.Prelude.{string_bytes}
use Rattle.ldap_ber.specs.Element.{element_bytes}
use Rattle.ldap_ber.specs.Rows.{row_bytes}
use Rattle.ldap_ber.proofs.writing_rows.put_texts.Given as goal

abbrev pub invariant-loop-text : goal.invariant-loop-text
invariant-loop-text l = l.out.items ≡ l.initial.out.items ++ row_bytes (element_bytes 4)
    (map string_bytes (take l.text-index l.texts))
