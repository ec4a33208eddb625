-- The order of clients, by which tables keep them, and their code. Nothing of the protocol rests on which order it is.
use Rattle.std.specs.Ordering.{nat_cmp, ordering_then}
use Rattle.std.specs.declared.cmp.Ordering.{Ordering}
use Rattle.log_entry.specs.declared.words.Client.{Client}

-- By home, then by life, then by number.
abbrev pub client_cmp : Client → Client → Ordering
client_cmp a b = ordering_then (nat_cmp a.home b.home) (ordering_then (nat_cmp a.life b.life)
    (nat_cmp a.number b.number))
