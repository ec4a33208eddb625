-- What contracts that aren't public say of it. What public contracts say is in specs/Limits.
use Rattle.std.specs.Prelude.{◌≡◌, ℕ, ◌+◌, ◌≤◌, List, ◌++◌}
use Rattle.ldap_ber.specs.declared.message_fault.MsgFault.{MsgFault}
use Rattle.ldap_ber.specs.declared.message_fault.MsgFault.TheVariants.{TooLarge, NotAMessage, TooDeep, TooManyItems, NoMemory}
use Rattle.ldap_filter.specs.Tree.{Tree, conj, disj, negation, item, Trees, depth, count, depths, counts}
use Rattle.ldap_filter.specs.ItemGrammar.{item_octet, IsItem}
use Rattle.ldap_filter.specs.Grammar.{IsFilter, AreFilters}
use Rattle.ldap_filter.specs.Limits.{Opens}

-- the tree is an item that an element of this first octet and content spells
abbrev pub IsItemTree : ℕ → List ℕ → Tree → Type 0
IsItemTree first content (item i) = (item_octet i ≡ first) × IsItem i content
IsItemTree first content (conj ts) = ⊥
IsItemTree first content (disj ts) = ⊥
IsItemTree first content (negation t) = ⊥

-- a filter at the front, within the limits; left is what is left of the items
pub record Reads (depth_limit items : ℕ) (octets : List ℕ) (t : Tree) (left : ℕ) (rest : List ℕ) : Type 0 where
  pub spelling : List ℕ
  pub is_filter : IsFilter t spelling
  pub parts : octets ≡ spelling ++ rest
  pub deep : depth t ≤ depth_limit
  pub many : count t + left ≡ items

-- filters are all of the content
pub record ReadsRow (depth_limit items : ℕ) (content : List ℕ) (ts : Trees) (left : ℕ) : Type 0 where
  pub are_filters : AreFilters ts content
  pub deep : depths ts ≤ depth_limit
  pub many : counts ts + left ≡ items

-- the same inside a row of filters
pub record OpensInRow (d k : ℕ) (content : List ℕ) : Type 0 where
  pub before : Trees
  pub done : List ℕ
  pub after : List ℕ
  pub inner : ℕ
  pub parts : content ≡ done ++ after
  pub are_filters : AreFilters before done
  pub items : k ≡ counts before + inner
  pub opens : Opens d inner after

-- what a fault says of a row of filters
abbrev pub IsRowFault : MsgFault → ℕ → ℕ → List ℕ → Type 0
IsRowFault NotAMessage depth_limit items content = (ts : Trees) → AreFilters ts content → ⊥
IsRowFault TooDeep depth_limit items content = (k : ℕ) × OpensInRow depth_limit k content
IsRowFault TooManyItems depth_limit items content = (d : ℕ) × OpensInRow d items content
IsRowFault NoMemory depth_limit items content = Unit {0}
IsRowFault TooLarge depth_limit items content = ⊥
