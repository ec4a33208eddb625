-- Where a filter stands in a search request, and what each fault says of the octets.
use Rattle.std.specs.Prelude.{ℕ, Bool, List}
use Rattle.ldap_filter.specs.ldap_ber.declared.message_fault.MsgFault.{MsgFault}
use Rattle.ldap_filter.specs.ldap_ber.declared.message_fault.MsgFault.TheVariants.{TooLarge, NotAMessage, TooDeep, TooManyItems, NoMemory}
use Rattle.ldap_filter.specs.Limits.{Opens}
use Rattle.ldap_requests.specs.Grammar.{IsTarget, IsBounds}
use Rattle.ldap_requests.specs.declared.search.Scope.{Scope}
use Rattle.ldap_requests.specs.declared.search.DerefAliases.{DerefAliases}

-- In the content of a search request the six fields before the filter stand, and then this place.
pub record FilterStandsAt (content place : List ℕ) : Type 0 where
  pub base : List ℕ
  pub scope : Scope
  pub deref : DerefAliases
  pub size : ℕ
  pub time : ℕ
  pub types_only : Bool
  pub middle : List ℕ
  pub target : IsTarget base scope deref content middle
  pub bounds : IsBounds size time types_only middle place

-- What a fault says of octets where a part of the grammar is to be: none is there, or a filter opens at its place At
-- that has 128 filters around it (TooDeep), or 512 before it or around it (TooManyItems), whatever follows.
abbrev pub IsLimitFault : MsgFault → Type 0 → (List ℕ → Type 0) → Type 0
IsLimitFault NotAMessage InGrammar At = InGrammar → ⊥
IsLimitFault TooDeep InGrammar At = (place : List ℕ) × (k : ℕ) × At place × Opens 128 k place
IsLimitFault TooManyItems InGrammar At = (place : List ℕ) × (d : ℕ) × At place × Opens d 512 place
IsLimitFault NoMemory InGrammar At = Unit {0}
IsLimitFault TooLarge InGrammar At = ⊥
