-- Runs of three octets: which of a substrings assertion's parts a plan asks for, and whether an entry holds them.
use Rattle.std.specs.Prelude.{ℕ, List, [], ◌∷◌, ◌++◌, Bool, true, false, not, cond, ◌&&◌, ◌||◌, length, nat_lt}
use Rattle.std.specs.List.{list_any, list_all}
use Rattle.std.specs.Str.{bytes_eq}
use Rattle.ldap_eval.specs.ldap_syntax.Parts.{part_or_nothing}
use Rattle.ldap_eval.specs.ldap_match.Parts.{PartsModel}
use Rattle.ldap_eval.specs.ldap_match.declared.testing.Test.{Test}
use Rattle.ldap_eval.specs.ldap_match.declared.testing.Test.TheVariants as test
use Rattle.ldap_eval.specs.dir_entry.Entry.{KeyedAttribute}
use Rattle.dir_index.specs.index_choice.declared.kinds.Kinds.{Kinds}
use Rattle.dir_index.specs.index_choice.Choice.{kinds_of}
use Rattle.dir_index.specs.Postings.{some_key, stands_in}
use Rattle.ldap_eval.specs.declared.bound.BoundFilter.{BoundFilter, fold-BoundFilter}
use Rattle.ldap_eval.specs.declared.bound.BoundFilter.TheOpen.{BoundFilter-F}

-- the runs of three octets of a text, in order
abbrev pub runs_of : List ℕ → List (List ℕ)
runs_of [] = []
runs_of (a ∷ []) = []
runs_of (a ∷ b ∷ []) = []
runs_of (a ∷ b ∷ c ∷ x) = (a ∷ b ∷ c ∷ []) ∷ runs_of (b ∷ c ∷ x)

-- the runs of each text
abbrev pub runs_of_all : List (List ℕ) → List (List ℕ)
runs_of_all [] = []
runs_of_all (x ∷ xs) = runs_of x ++ runs_of_all xs

-- all parts of an assertion
abbrev pub parts_of : PartsModel → List (List ℕ)
parts_of p = part_or_nothing p.initial ∷ (p.any ++ part_or_nothing p.last ∷ [])

-- whether a run is among others
abbrev pub is_among : List ℕ → List (List ℕ) → Bool
is_among g gs = list_any (λ h. bytes_eq h g) gs

-- a run behind those that are asked for so far, unless it is among them or they are 64
abbrev pub with_run : List (List ℕ) → List ℕ → List (List ℕ)
with_run gs g = cond (nat_lt (length gs) 64 && not (is_among g gs)) (gs ++ g ∷ []) gs

-- the same for each run of a list, one after the other
abbrev pub with_runs : List (List ℕ) → List (List ℕ) → List (List ℕ)
with_runs gs [] = gs
with_runs gs (x ∷ xs) = with_runs (with_run gs x) xs

-- The runs of three octets that a plan asks for: of those of all parts the first 64, each once.
abbrev pub asked_runs : PartsModel → List (List ℕ)
asked_runs p = with_runs [] (runs_of_all (parts_of p))

-- an entry has values of the type that hold each of these runs
abbrev pub has_runs : ℕ → PartsModel → List KeyedAttribute → Bool
has_runs t p e = list_all (λ g. some_key t (stands_in g) e) (asked_runs p)

-- Whether an entry holds the runs that a test of a type asks for, as far as there is a substrings index for the
-- type; nothing passes a test that nobody can tell.
abbrev pub has_runs_of_test : List Kinds → ℕ → Test → List KeyedAttribute → Bool
has_runs_of_test ix t test.Present e = true
has_runs_of_test ix t test.Unknown e = false
has_runs_of_test ix t (test.Equal k) e = true
has_runs_of_test ix t (test.AtLeast k) e = true
has_runs_of_test ix t (test.AtMost k) e = true
has_runs_of_test ix t (test.Parts p) e = not (kinds_of ix t).substrings || has_runs t p e

-- one level, with each part already told
abbrev pub runs_step : List Kinds → List KeyedAttribute → BoundFilter-F Bool → Bool
runs_step ix e (BoundFilter-F.And v) = list_all (λ b. b) v.items
runs_step ix e (BoundFilter-F.Or v) = list_any (λ b. b) v.items
runs_step ix e (BoundFilter-F.Not b) = true
runs_step ix e BoundFilter-F.Undefined = false
runs_step ix e (BoundFilter-F.Leaf leaf) = has_runs_of_test ix leaf.type_id leaf.test e
runs_step ix e (BoundFilter-F.Match m) = true

-- Whether an entry holds the runs that a filter asks for: of an `and` those of each part, of an `or` those of some
-- part.
abbrev pub has_runs_for : List Kinds → List KeyedAttribute → BoundFilter → Bool
has_runs_for ix e = fold-BoundFilter Bool (runs_step ix e)
