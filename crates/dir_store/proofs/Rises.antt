-- Numbers rise from entry to entry, whatever the updates.
use Rattle.std.proofs.Common.{◌<◌, ◌+◌, ℕ, List, [], ◌∷◌, ◌++◌, Bool, true, false, cond, Result, Ok, Err, nat_eq}
use Rattle.indexed_tree.specs.ldap_dn.Names.{RdnModel, rdns}
use Rattle.entry_updates.specs.ldap_op.Values.{OpValue, add, delete, modify, modify_dn, noop}
use Rattle.indexed_tree.specs.dir_entry.Entry.{AttributeModel}
use Rattle.indexed_tree.specs.dir_tree.Directory.{NameKey}
use Rattle.indexed_tree.specs.Directory.{Directory, NamedEntry}
use Rattle.dir_store.specs.Order.{NumbersAbove, NumbersAreRising, EntriesRise}
use Rattle.indexed_tree.specs.Places.{without_entry, with_attributes, moved}
use Rattle.indexed_tree.specs.Replies.{then}
use Rattle.indexed_tree.specs.directory_api.Answers.{ReplyModel}
use Rattle.indexed_tree.specs.Stored.{NumbersBelow}
use Rattle.dir_store.specs.Updates.{PlacedModel, KeptModel, MoveModel, name_asked, leaf_asked, addition, change_asked, move_asked, with_entries, applied, directory_after, empty_directory}
use Rattle.dir_store.proofs.Below.{below_applied}

-- one more behind, under a number that is above all others
above_pushed : (j k : ℕ) (es : List NamedEntry) (name : List RdnModel) (a : List AttributeModel) → j < k →
    NumbersAbove j es → NumbersAbove j (es ++ record { number = k; name = name; attributes = a } ∷ [])
above_pushed j k [] name a lt h = (lt, tt)
above_pushed j k (e ∷ es) name a lt h = (h.0, above_pushed j k es name a lt h.1)

pushed : (k : ℕ) (es : List NamedEntry) (name : List RdnModel) (a : List AttributeModel) → NumbersBelow k es →
    NumbersAreRising es → NumbersAreRising (es ++ record { number = k; name = name; attributes = a } ∷ [])
pushed k [] name a below h = (tt, tt)
pushed k (e ∷ es) name a below h = (above_pushed e.number k es name a below.0 h.0, pushed k es name a below.1 h.1)

-- one less
above_without : (j n : ℕ) (es : List NamedEntry) → NumbersAbove j es → NumbersAbove j (without_entry n es)
above_without j n [] h = tt
above_without j n (e ∷ es) h = by (nat_eq n e.number) (above_without j n es h.1)
  where
    by : (b : Bool) → NumbersAbove j (without_entry n es) → NumbersAbove j (cond b es (e ∷ without_entry n es))
    by true ih = h.1
    by false ih = (h.0, ih)

without : (n : ℕ) (es : List NamedEntry) → NumbersAreRising es → NumbersAreRising (without_entry n es)
without n [] h = tt
without n (e ∷ es) h = by (nat_eq n e.number) (without n es h.1)
  where
    by : (b : Bool) → NumbersAreRising (without_entry n es) → NumbersAreRising (cond b es (e ∷ without_entry n es))
    by true ih = h.1
    by false ih = (above_without e.number n es h.0, ih)

-- one with other attributes
above_other : (j n : ℕ) (a : List AttributeModel) (es : List NamedEntry) → NumbersAbove j es →
    NumbersAbove j (with_attributes n a es)
above_other j n a [] h = tt
above_other j n a (e ∷ es) h = by (nat_eq n e.number) (above_other j n a es h.1)
  where
    by : (b : Bool) → NumbersAbove j (with_attributes n a es) →
        NumbersAbove j (cond b (record { number = e.number; name = e.name; attributes = a } ∷ es)
        (e ∷ with_attributes n a es))
    by true ih = (h.0, h.1)
    by false ih = (h.0, ih)

other : (n : ℕ) (a : List AttributeModel) (es : List NamedEntry) → NumbersAreRising es →
    NumbersAreRising (with_attributes n a es)
other n a [] h = tt
other n a (e ∷ es) h = by (nat_eq n e.number) (other n a es h.1)
  where
    by : (b : Bool) → NumbersAreRising (with_attributes n a es) →
        NumbersAreRising (cond b (record { number = e.number; name = e.name; attributes = a } ∷ es)
        (e ∷ with_attributes n a es))
    by true ih = (h.0, h.1)
    by false ih = (above_other e.number n a es h.0, ih)

-- some with other names
above_moved : (j : ℕ) (old : NameKey) (new : List RdnModel) (a : List AttributeModel) (es : List NamedEntry) →
    NumbersAbove j es → NumbersAbove j (moved old new a es)
above_moved j old new a [] h = tt
above_moved j old new a (e ∷ es) h = (h.0, above_moved j old new a es h.1)

named_anew : (old : NameKey) (new : List RdnModel) (a : List AttributeModel) (es : List NamedEntry) →
    NumbersAreRising es → NumbersAreRising (moved old new a es)
named_anew old new a [] h = tt
named_anew old new a (e ∷ es) h = (above_moved e.number old new a es h.0, named_anew old new a es h.1)

-- by what was asked for
module _ (d : Directory) (n : ℕ) (below : NumbersBelow n d.entries) (h : NumbersAreRising d.entries) where
  if_placed : (r : Result PlacedModel ReplyModel) →
      NumbersAreRising (with_entries d
      (then r (λ p. Ok (d.entries ++ record { number = n; name = p.name; attributes = p.attributes } ∷ [])))).entries
  if_placed (Err reply) = h
  if_placed (Ok p) = pushed n d.entries p.name p.attributes below h

  if_leaf : (r : Result ℕ ReplyModel) →
      NumbersAreRising (with_entries d (then r (λ k. Ok (without_entry k d.entries)))).entries
  if_leaf (Err reply) = h
  if_leaf (Ok k) = without k d.entries h

  if_read : (r : Result (List RdnModel) ReplyModel) →
      NumbersAreRising (with_entries d
      (then r (λ name. then (leaf_asked d name) (λ k. Ok (without_entry k d.entries))))).entries
  if_read (Err reply) = h
  if_read (Ok name) = if_leaf (leaf_asked d name)

  if_kept : (r : Result KeptModel ReplyModel) →
      NumbersAreRising (with_entries d (then r (λ k. Ok (with_attributes k.number k.attributes d.entries)))).entries
  if_kept (Err reply) = h
  if_kept (Ok k) = other k.number k.attributes d.entries h

  if_moved : (r : Result MoveModel ReplyModel) →
      NumbersAreRising (with_entries d
      (then r (λ m. Ok (moved (rdns m.before) m.after m.attributes d.entries)))).entries
  if_moved (Err reply) = h
  if_moved (Ok m) = named_anew (rdns m.before) m.after m.attributes d.entries h

-- an update whose number is above all others
rises_applied : (d : Directory) (n : ℕ) (u : OpValue) → NumbersBelow n d.entries → NumbersAreRising d.entries →
    NumbersAreRising (applied d n u).entries
rises_applied d n (add a) below h = if_placed d n below h (addition d a)
rises_applied d n (delete text) below h = if_read d n below h (name_asked d.schema text)
rises_applied d n (modify m) below h = if_kept d n below h (change_asked d m)
rises_applied d n (modify_dn r) below h = if_moved d n below h (move_asked d r)
rises_applied d n noop below h = h

-- all updates, each under the number that follows
rises_after : (d : Directory) (n : ℕ) (ops : List OpValue) → NumbersBelow (n + 1) d.entries →
    NumbersAreRising d.entries → NumbersAreRising (directory_after d n ops).entries
rises_after d n [] below h = h
rises_after d n (u ∷ ops) below h = rises_after (applied d (n + 1) u) (n + 1) ops (below_applied d (n + 1) u below)
    (rises_applied d (n + 1) u below h)

-- the entries of a directory of updates
pub entries_rise : EntriesRise
entries_rise s suffix ops = rises_after (empty_directory s suffix) 0 ops tt tt
