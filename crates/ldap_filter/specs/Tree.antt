-- A filter without where it lies in memory, its depth and its count of items.
use Rattle.std.specs.Prelude.{ℕ, suc, ◌+◌, max}
use Rattle.ldap_filter.specs.Item.{Item}

-- A filter (RFC 4511 4.5.1.7).
mutual
  pub data Tree : Type 0 where
    conj : Trees → Tree
    disj : Trees → Tree
    negation : Tree → Tree
    item : Item → Tree

  pub data Trees : Type 0 where
    no_trees : Trees
    tree : Tree → Trees → Trees

-- How deep a filter is: an item is 1 deep, an `and`, `or` or `not` 1 more than what is in it.
abbrev mutual
  pub depth : Tree → ℕ
  depth (conj ts) = suc (depths ts)
  depth (disj ts) = suc (depths ts)
  depth (negation t) = suc (depth t)
  depth (item i) = 1

  pub depths : Trees → ℕ
  depths no_trees = 0
  depths (tree t ts) = max (depth t) (depths ts)

-- How many items a filter has: each item, `and`, `or` and `not` is one.
abbrev mutual
  pub count : Tree → ℕ
  count (conj ts) = suc (counts ts)
  count (disj ts) = suc (counts ts)
  count (negation t) = suc (count t)
  count (item i) = 1

  pub counts : Trees → ℕ
  counts no_trees = 0
  counts (tree t ts) = count t + counts ts
