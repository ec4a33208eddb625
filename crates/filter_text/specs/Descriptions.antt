-- The words that stand before a value.
use Rattle.std.specs.Prelude.{ℕ, List, [], ◌∷◌, map, Bool}
use Rattle.std.specs.Char.{to_ascii_lowercase}
use Rattle.std.specs.Str.{bytes_eq}
pub use Rattle.ldap_words.specs.Words.{is_alpha, is_key_octet, is_descr, is_oid, is_option, is_described, is_description}

-- `dn`, in any case (RFC 4515 3, dnattrs; RFC 4234 2.3)
abbrev pub is_dn : List ℕ → Bool
is_dn w = bytes_eq (map to_ascii_lowercase w) (100 ∷ 110 ∷ [])
