-- The postings that list an entry, as a set of keys.
use Rattle.std.specs.Prelude.{ℕ, List, Bool, false, cond, ◌&&◌, ◌||◌, nat_eq, nat_lt, length}
use Rattle.std.specs.List.{list_any}
use Rattle.index_choice.specs.dir_entry.ldap_match.Keyed.{is_same_key}
use Rattle.index_choice.specs.dir_entry.ldap_match.Parts.{is_at_start}
use Rattle.index_choice.specs.dir_entry.Entry.{KeyedAttribute}
use Rattle.index_choice.specs.declared.kinds.Kinds.{Kinds}
use Rattle.index_choice.specs.Choice.{kinds_of}
use Rattle.dir_index.specs.declared.posting.Posting.{Posting}
use Rattle.dir_index.specs.declared.posting.Posting.TheVariants.{Present, Several, Equal, Run}
use Rattle.dir_index.specs.declared.list_key.ListKey.{ListKey}
use Rattle.dir_index.specs.Postings.{is_kept, is_listed, has_type, has_several, some_key, stands_in}
use Rattle.dir_index.specs.ListKeys.{key_of, is_same_list}

-- whether a key is among these
abbrev pub is_marked : List ListKey → ListKey → Bool
is_marked ks k = list_any (λ j. is_same_list j k) ks

-- whether a posting's key is among these
abbrev pub has_posting : List ListKey → Posting → Bool
has_posting ks p = is_marked ks (key_of p)

-- whether a posting is one that is kept and lists the entry
abbrev pub lists_entry : List Kinds → List KeyedAttribute → Posting → Bool
lists_entry ix e p = is_kept ix p && is_listed p e

-- whether a posting is of the first three octets of the key
abbrev pub is_first_run : ℕ → List ℕ → Posting → Bool
is_first_run t k (Present u) = false
is_first_run t k (Several u) = false
is_first_run t k (Equal u l) = false
is_first_run t k (Run u g) = nat_eq t u && (nat_eq (length g) 3 && is_at_start g k)

-- whether a posting is of a run of three octets of the key
abbrev pub is_run_of : ℕ → List ℕ → Posting → Bool
is_run_of t k (Present u) = false
is_run_of t k (Several u) = false
is_run_of t k (Equal u l) = false
is_run_of t k (Run u g) = nat_eq t u && (nat_eq (length g) 3 && stands_in g k)

-- whether a posting is of the key itself
abbrev pub is_of_key : ℕ → List ℕ → Posting → Bool
is_of_key t k (Present u) = false
is_of_key t k (Several u) = false
is_of_key t k (Equal u l) = nat_eq t u && is_same_key l k
is_of_key t k (Run u g) = false

-- whether a posting is one of the key's, under the kinds of its type
abbrev pub is_from_key : Kinds → ℕ → Posting → List ℕ → Bool
is_from_key ks t p k = ((ks.equality || ks.ordering) && is_of_key t k p) || (ks.substrings && is_run_of t k p)

-- whether a posting is that of the attribute's presence, under the kinds of its type
abbrev pub is_from_presence : Kinds → ℕ → Posting → Bool
is_from_presence ks t (Present u) = ks.presence && nat_eq t u
is_from_presence ks t (Several u) = false
is_from_presence ks t (Equal u l) = false
is_from_presence ks t (Run u g) = false

-- whether an attribute before others makes the entry one that may have several values of its type
abbrev pub makes_several : KeyedAttribute → List KeyedAttribute → Bool
makes_several a e = nat_lt 1 (length a.keys) || has_type a.kind e

-- whether a posting is that of several values of the attribute's type, where there may be several
abbrev pub is_from_several : Kinds → ℕ → Bool → Posting → Bool
is_from_several ks t several (Present u) = false
is_from_several ks t several (Several u) = ks.ordering && (nat_eq t u && several)
is_from_several ks t several (Equal u l) = false
is_from_several ks t several (Run u g) = false

-- whether a posting is one of an attribute's before others
abbrev pub is_from_attribute : List Kinds → KeyedAttribute → List KeyedAttribute → Posting → Bool
is_from_attribute ix a e p =
    let ks = kinds_of ix a.kind in
    is_from_presence ks a.kind p || (is_from_several ks a.kind (makes_several a e) p || list_any
    (is_from_key ks a.kind p) a.keys)

-- whether values bring a posting: one of their keys does, or that there is one more of their type
abbrev pub is_brought : Posting → List KeyedAttribute → Bool
is_brought (Present t) named = has_type t named
is_brought (Several t) named = has_type t named
is_brought (Equal t k) named = some_key t (is_same_key k) named
is_brought (Run t g) named = some_key t (stands_in g) named

-- whether a posting is one that is kept and that values bring
abbrev pub is_from_named : List Kinds → List KeyedAttribute → Posting → Bool
is_from_named ix named p = is_kept ix p && is_brought p named

-- whether the list of a key is one that is kept and lists the entry
abbrev pub lists_by : List Kinds → List KeyedAttribute → ListKey → Bool
lists_by ix e k =
    let ks = kinds_of ix k.type_id in
    cond (nat_eq k.rank 0) (ks.presence && has_type k.type_id e)
    (cond (nat_eq k.rank 1) (ks.ordering && has_several k.type_id e)
    (cond (nat_eq k.rank 2) ((ks.equality || ks.ordering) && some_key k.type_id (is_same_key k.octets) e)
    ((ks.substrings && nat_eq (length k.octets) 3) && some_key k.type_id (stands_in k.octets) e)))
