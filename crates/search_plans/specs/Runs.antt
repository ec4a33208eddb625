-- What a run of plans is given, and how far it has come.
use Rattle.std.specs.Prelude.{ℕ, Bool, true, false, ◌&&◌, not, List, filter}
use Rattle.dir_index.specs.ldap_match.declared.truth.Truth.{Truth}
use Rattle.dir_index.specs.ldap_match.declared.truth.Truth.TheVariants.{True}
use Rattle.dir_index.specs.Postings.{Lists, has_number}
use Rattle.search_plans.specs.Sets.{is_in, Guides}
use Rattle.search_plans.specs.declared.plan.Sided.{Sided}

-- whether a value is True
abbrev pub is_true : Truth → Bool
is_true True = true
is_true t = false

-- the numbers of a scope whose value is True, in order
abbrev pub true_set : (ℕ → Truth) → List ℕ → List ℕ
true_set value scope = filter (λ n. is_true (value n)) scope

-- whether two plans leave a number open: it may be, and need not
abbrev pub is_open : (ℕ → Bool) → (ℕ → Bool) → ℕ → Bool
is_open must may n = may n && not (must n)

-- two plans guide a run over posting lists, within a scope
abbrev pub AreGuides : Lists → Sided → (ℕ → Truth) → List ℕ → Type 0
AreGuides kept s value scope = Guides (is_in kept scope s.must) value (is_in kept scope s.may) scope

-- the numbers of a scope that two plans leave open, in order
abbrev pub left_open : Lists → Sided → List ℕ → List ℕ
left_open kept s scope = filter (is_open (is_in kept scope s.must) (is_in kept scope s.may)) scope

-- How far a run has come: the numbers that it still has to give; the numbers of the scope that its plans leave open;
-- how many values it asked for; and the count of looks that it has caused or found.
pub record Progress : Type 0 where
  pub to_come : List ℕ
  pub open_numbers : List ℕ
  pub tests : ℕ
  pub looks : ℕ

-- whether a number is in a scope and its value is True
abbrev pub is_wanted : (ℕ → Truth) → List ℕ → ℕ → Bool
is_wanted value scope n = has_number n scope && is_true (value n)

-- The progress of a run that has these candidates left.
abbrev pub progress_of : (ℕ → Bool) → (ℕ → Bool) → (ℕ → Truth) → List ℕ → List ℕ → ℕ → ℕ → Progress
progress_of must may value scope candidates tests looks = record {
  to_come = filter (is_wanted value scope) candidates;
  open_numbers = filter (is_open must may) scope;
  tests = tests;
  looks = looks;
}
