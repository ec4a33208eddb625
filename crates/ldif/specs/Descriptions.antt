-- Attribute descriptions (RFC 4512).
use Rattle.std.specs.Prelude.{ℕ, List, Bool, not, ◌&&◌, ◌||◌, codes}
pub use Rattle.ldap_words.specs.Words.{is_same_word, is_description}

-- `dn`, in any case (RFC 2849, distinguishedName)
abbrev pub is_dn : List ℕ → Bool
is_dn word = is_same_word word (codes "dn")

-- what begins a change, in any case (RFC 2849, changerecord and control)
abbrev pub begins_change : List ℕ → Bool
begins_change word = is_same_word word (codes "changetype") || is_same_word word (codes "control")

-- The type of a value of a record: a description that is neither `dn` nor begins a change (RFC 2849, attrval-spec).
abbrev pub is_type : List ℕ → Bool
is_type word = is_description word && not (is_dn word) && not (begins_change word)
