-- The order in which posting lists are kept: by type, then by kind of index, then by octets.
use Rattle.std.specs.Prelude.{ℕ, List, [], Bool, ◌&&◌, nat_eq}
use Rattle.std.specs.declared.cmp.Ordering.{Ordering}
use Rattle.std.specs.Ordering.{nat_cmp, on, then_cmp}
use Rattle.std.specs.Cmp.Lexicographic.{slice_cmp}
use Rattle.std.specs.Str.{bytes_eq}
use Rattle.dir_index.specs.declared.posting.Posting.{Posting}
use Rattle.dir_index.specs.declared.posting.Posting.TheVariants.{Present, Several, Equal, Run}

-- the type that a posting is of
abbrev pub type_of : Posting → ℕ
type_of (Present t) = t
type_of (Several t) = t
type_of (Equal t k) = t
type_of (Run t g) = t

-- the kinds of index, in order
abbrev pub rank_of : Posting → ℕ
rank_of (Present t) = 0
rank_of (Several t) = 1
rank_of (Equal t k) = 2
rank_of (Run t g) = 3

-- what a posting asks a value for
abbrev pub octets_of : Posting → List ℕ
octets_of (Present t) = []
octets_of (Several t) = []
octets_of (Equal t k) = k
octets_of (Run t g) = g

-- so the keys of a type stand together, in order, between what is asked of a type alone and its runs
abbrev pub posting_order : Posting → Posting → Ordering
posting_order = then_cmp (on type_of nat_cmp) (then_cmp (on rank_of nat_cmp) (on octets_of (slice_cmp nat_cmp)))

-- whether two postings are one
abbrev pub is_same_posting : Posting → Posting → Bool
is_same_posting p q = nat_eq (type_of p) (type_of q) && (nat_eq (rank_of p) (rank_of q) && bytes_eq (octets_of p)
    (octets_of q))
