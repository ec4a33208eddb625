-- Numbers once an update is made: all stay below the number after its own.
use Rattle.std.proofs.Common.{◌≡◌, ◌<◌, ◌+◌, ℕ, List, [], ◌∷◌, ◌++◌, Bool, true, false, cond, Result, Ok, Err, nat_eq, arith, sym, ap, subst}
use Rattle.std.specs.Prelude.{IfOk}
use Rattle.indexed_tree.specs.ldap_dn.Names.{RdnModel, rdns}
use Rattle.entry_updates.specs.ldap_op.Values.{OpValue, add, delete, modify, modify_dn, noop}
use Rattle.indexed_tree.specs.dir_entry.Entry.{AttributeModel}
use Rattle.indexed_tree.specs.dir_tree.Directory.{NameKey}
use Rattle.indexed_tree.specs.Directory.{Directory, NamedEntry}
use Rattle.indexed_tree.specs.Places.{without_entry, with_attributes, moved}
use Rattle.indexed_tree.specs.Replies.{then}
use Rattle.indexed_tree.specs.directory_api.Answers.{ReplyModel}
use Rattle.indexed_tree.specs.Stored.{NumbersBelow}
use Rattle.dir_store.specs.Updates.{PlacedModel, KeptModel, MoveModel, name_asked, leaf_asked, addition, change_asked, move_asked, updated, with_entries, applied}

up : (k : ℕ) (es : List NamedEntry) → NumbersBelow k es → NumbersBelow (k + 1) es
up k [] h = tt
up k (e ∷ es) h = let lt : e.number < k = h.0 in (omega (arith, lt), up k es h.1)

pushed : (k : ℕ) (es : List NamedEntry) (name : List RdnModel) (a : List AttributeModel) → NumbersBelow k es →
    NumbersBelow (k + 1) (es ++ record { number = k; name = name; attributes = a } ∷ [])
pushed k [] name a h = (omega arith, tt)
pushed k (e ∷ es) name a h = let lt : e.number < k = h.0 in (omega (arith, lt), pushed k es name a h.1)

without : (k n : ℕ) (es : List NamedEntry) → NumbersBelow k es → NumbersBelow k (without_entry n es)
without k n [] h = tt
without k n (e ∷ es) h = by (nat_eq n e.number) (without k n es h.1)
  where
    by : (b : Bool) → NumbersBelow k (without_entry n es) → NumbersBelow k (cond b es (e ∷ without_entry n es))
    by true ih = h.1
    by false ih = (h.0, ih)

other : (k n : ℕ) (a : List AttributeModel) (es : List NamedEntry) → NumbersBelow k es →
    NumbersBelow k (with_attributes n a es)
other k n a [] h = tt
other k n a (e ∷ es) h = by (nat_eq n e.number) (other k n a es h.1)
  where
    by : (b : Bool) → NumbersBelow k (with_attributes n a es) →
        NumbersBelow k (cond b (record { number = e.number; name = e.name; attributes = a } ∷ es)
        (e ∷ with_attributes n a es))
    by true ih = (h.0, h.1)
    by false ih = (h.0, ih)

named_anew : (k : ℕ) (old : NameKey) (new : List RdnModel) (a : List AttributeModel) (es : List NamedEntry) →
    NumbersBelow k es → NumbersBelow k (moved old new a es)
named_anew k old new a [] h = tt
named_anew k old new a (e ∷ es) h = (h.0, named_anew k old new a es h.1)

-- by what was asked for
module _ (d : Directory) (n : ℕ) (h : NumbersBelow n d.entries) where
  stays : NumbersBelow (n + 1) d.entries
  stays = up n d.entries h

  if_placed : (r : Result PlacedModel ReplyModel) →
      NumbersBelow (n + 1) (with_entries d
      (then r (λ p. Ok (d.entries ++ record { number = n; name = p.name; attributes = p.attributes } ∷ [])))).entries
  if_placed (Err reply) = stays
  if_placed (Ok p) = pushed n d.entries p.name p.attributes h

  if_leaf : (r : Result ℕ ReplyModel) →
      NumbersBelow (n + 1) (with_entries d (then r (λ k. Ok (without_entry k d.entries)))).entries
  if_leaf (Err reply) = stays
  if_leaf (Ok k) = without (n + 1) k d.entries stays

  if_read : (r : Result (List RdnModel) ReplyModel) →
      NumbersBelow (n + 1) (with_entries d
      (then r (λ name. then (leaf_asked d name) (λ k. Ok (without_entry k d.entries))))).entries
  if_read (Err reply) = stays
  if_read (Ok name) = if_leaf (leaf_asked d name)

  if_kept : (r : Result KeptModel ReplyModel) →
      NumbersBelow (n + 1) (with_entries d (then r (λ k. Ok (with_attributes k.number k.attributes d.entries)))).entries
  if_kept (Err reply) = stays
  if_kept (Ok k) = other (n + 1) k.number k.attributes d.entries stays

  if_moved : (r : Result MoveModel ReplyModel) →
      NumbersBelow (n + 1) (with_entries d
      (then r (λ m. Ok (moved (rdns m.before) m.after m.attributes d.entries)))).entries
  if_moved (Err reply) = stays
  if_moved (Ok m) = named_anew (n + 1) (rdns m.before) m.after m.attributes d.entries stays

-- all numbers stay below the number after the update's own
pub below_applied : (d : Directory) (n : ℕ) (u : OpValue) → NumbersBelow n d.entries →
    NumbersBelow (n + 1) (applied d n u).entries
below_applied d n (add a) h = if_placed d n h (addition d a)
below_applied d n (delete text) h = if_read d n h (name_asked d.schema text)
below_applied d n (modify m) h = if_kept d n h (change_asked d m)
below_applied d n (modify_dn r) h = if_moved d n h (move_asked d r)
below_applied d n noop h = stays d n h

-- the same of the entries that an update leaves
pub below_updated : (d : Directory) (n : ℕ) (u : OpValue) (es : List NamedEntry) → NumbersBelow n d.entries →
    updated d n u ≡ Ok es → NumbersBelow (n + 1) es
below_updated d n u es h is = subst (λ (l : List NamedEntry). NumbersBelow (n + 1) l)
    (ap (λ (r : Result (List NamedEntry) ReplyModel). (with_entries d r).entries) is) (below_applied d n u h)

pub below_kept : (d e : Directory) (n : ℕ) → NumbersBelow n d.entries → e ≡ d → NumbersBelow (n + 1) e.entries
below_kept d e n h is = subst (λ (x : Directory). NumbersBelow (n + 1) x.entries) (sym is) (up n d.entries h)

pub whatever_reply : {A E P : Type 0} (r : Result A E) → P → IfOk r (λ x. P)
whatever_reply (Ok x) p = p
whatever_reply (Err e) p = tt
