-- How many entries a search evaluates its bound filter on, by their numbers.
use Rattle.std.specs.Prelude.{ℕ, List, Option, None, Some}
use Rattle.indexed_tree.specs.ldap_match.declared.truth.Truth.{Truth}
use Rattle.indexed_tree.specs.ldap_match.declared.truth.Truth.TheVariants.{Undefined}
use Rattle.ldap_eval.specs.Bound.{bound_value}
use Rattle.ldap_eval.specs.declared.bound.BoundFilter.{BoundFilter}
use Rattle.indexed_tree.specs.dir_tree.Directory.{Entered, entry_at}

-- the value of a bound filter on an entry; Undefined, where there is none
abbrev pub value_on : BoundFilter → Option Entered → Truth
value_on b None = Undefined
value_on b (Some e) = bound_value e.name e.entry b

-- the value of a bound filter on the entry of a number
abbrev pub value_in : BoundFilter → List Entered → ℕ → Truth
value_in b d n = value_on b (entry_at n d)
