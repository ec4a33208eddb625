-- The values of an attribute that are kept in parts, with what is kept beside them.
use Rattle.std.specs.Prelude.{ℕ, List, [], ◌∷◌, ◌++◌}
use Rattle.ldap_match.specs.ldap_syntax.Forms.{FormModel}

-- a part: values in order, their keys and their texts
pub record PartModel : Type 0 where
  pub values : List (List ℕ)
  pub keys : List (List ℕ)
  pub forms : List FormModel

-- what is kept in parts: all values in order, their keys and their texts, and in how many parts
pub record PartsModel : Type 0 where
  pub values : List (List ℕ)
  pub keys : List (List ℕ)
  pub forms : List FormModel
  pub count : ℕ

-- a part before another, as one
abbrev pub before : PartModel → PartModel → PartModel
before p q = record { values = p.values ++ q.values; keys = p.keys ++ q.keys; forms = p.forms ++ q.forms }

-- all parts as one
abbrev pub whole : List PartModel → PartModel
whole [] = record { values = []; keys = []; forms = [] }
whole (p ∷ ps) = before p (whole ps)
