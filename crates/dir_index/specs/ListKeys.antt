-- What posting lists are kept by, and its order.
use Rattle.std.specs.Prelude.{Bool, ◌&&◌, nat_eq}
use Rattle.std.specs.declared.cmp.Ordering.{Ordering}
use Rattle.std.specs.Ordering.{nat_cmp, on, then_cmp}
use Rattle.std.specs.Cmp.Lexicographic.{slice_cmp}
use Rattle.std.specs.Str.{bytes_eq}
use Rattle.dir_index.specs.declared.posting.Posting.{Posting}
use Rattle.dir_index.specs.declared.list_key.ListKey.{ListKey}
use Rattle.dir_index.specs.Ordered.{type_of, rank_of, octets_of}

-- what the list of a posting is kept by
abbrev pub key_of : Posting → ListKey
key_of p = record { type_id = type_of p; rank = rank_of p; octets = octets_of p }

-- the order of the keys is that of the postings
abbrev pub list_order : ListKey → ListKey → Ordering
list_order = then_cmp (on (λ k. k.type_id) nat_cmp) (then_cmp (on (λ k. k.rank) nat_cmp)
    (on (λ k. k.octets) (slice_cmp nat_cmp)))

-- whether two keys are one
abbrev pub is_same_list : ListKey → ListKey → Bool
is_same_list j k = nat_eq j.type_id k.type_id && (nat_eq j.rank k.rank && bytes_eq j.octets k.octets)
