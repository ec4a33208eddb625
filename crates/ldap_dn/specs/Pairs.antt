-- The pairs of a name: types with their values, and the keys by which names are told apart. RFC 4512 2.3.1.
use Rattle.std.specs.Prelude.{ℕ, List, [], ◌∷◌, ◌++◌, cond, map, nat_eq, Option, None, Some}
use Rattle.ldap_dn.specs.Names.{TypeAndKey, TypeAndValue, RdnModel}

-- a type, a value of it as it is written in a name, and the value's key under the type's EQUALITY rule
pub record PairModel : Type 0 where
  pub kind : ℕ
  pub value : List ℕ
  pub key : Option (List ℕ)

-- the key beside a type
abbrev pub key_for : ℕ → List TypeAndKey → Option (List ℕ)
key_for t [] = None
key_for t (k ∷ ks) = cond (nat_eq k.kind t) (Some k.key) (key_for t ks)

-- a type and its value as written, with the key of the type among these
abbrev pub pair_in : List TypeAndKey → TypeAndValue → PairModel
pair_in ks v = record { kind = v.kind; value = v.value; key = key_for v.kind ks }

-- the pairs of a relative name, in the order written
abbrev pub pairs_in : RdnModel → List PairModel
pairs_in r = map (pair_in r.keys) r.spelling

-- the pairs of a name, root first
abbrev pub pairs_of : List RdnModel → List PairModel
pairs_of [] = []
pairs_of (r ∷ rs) = pairs_in r ++ pairs_of rs
