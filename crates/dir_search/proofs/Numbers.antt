-- The entries of the numbers that the tree keeps.
use Rattle.std.proofs.Common.{◌≡◌, ◌<◌, ℕ, List, [], ◌∷◌, refl, ap, ◌∙◌, arith, Bool, true, false, cond, filter, map, Option, None, Some, nat_eq}
use Rattle.std.specs.Option.{option_map}
use Rattle.indexed_tree.specs.ldap_schema.Schema.{SchemaModel}
use Rattle.indexed_tree.specs.ldap_dn.Printed.{printed_name}
use Rattle.indexed_tree.specs.dir_entry.Entry.{KeyedAttribute, attributes_of}
use Rattle.indexed_tree.specs.directory_api.ldap_msg.Messages.{SearchResultEntryValue}
use Rattle.indexed_tree.specs.Stored.{named}
use Rattle.indexed_tree.specs.dir_tree.Directory.{Entered, entry_at, numbers, AllAbove, NumbersRise}
use Rattle.dir_search.specs.Numbered.{name_of}
use Rattle.dir_search.specs.private.Numbered.{put_some, entries_of}
use Rattle.dir_search.specs.Selection.{attributes_selected, selected}

-- each of the numbers is above one
abbrev Above : ℕ → List ℕ → Type 0
Above k [] = Unit {0}
Above k (n ∷ ns) = (k < n) × Above k ns

numbers_above : (k : ℕ) (p : Entered → Bool) (d : List Entered) → AllAbove k d → Above k (numbers p d)
numbers_above k p [] a = tt
numbers_above k p (e ∷ es) a = by (p e) (numbers_above k p es a.1)
  where
    by : (b : Bool) → Above k (numbers p es) → Above k (cond b (e.number ∷ numbers p es) (numbers p es))
    by true ih = (a.0, ih)
    by false ih = ih

-- an entry in front that has none of the numbers
past : (e : Entered) (es : List Entered) (ns : List ℕ) → Above e.number ns → entries_of ns (e ∷ es) ≡ entries_of ns es
past e es [] a = refl
past e es (n ∷ ns) a =
    let lt : e.number < n = a.0 in
    let apart : nat_eq n e.number ≡ false = grind (arith, lt) in
    ap (λ (b : Bool). put_some (cond b (Some e) (entry_at n es)) (entries_of ns (e ∷ es))) apart
    ∙ ap (put_some (entry_at n es)) (past e es ns a.1)

-- The entries of the numbers of those that pass are those that pass.
pub numbers_are : (p : Entered → Bool) (d : List Entered) → NumbersRise d → entries_of (numbers p d) d ≡ filter p d
numbers_are p [] r = refl
numbers_are p (e ∷ es) r = by (p e) (numbers_are p es r.1)
  where
    own : nat_eq e.number e.number ≡ true
    own = grind arith

    rest : entries_of (numbers p es) (e ∷ es) ≡ entries_of (numbers p es) es
    rest = past e es (numbers p es) (numbers_above e.number p es r.0)

    by : (b : Bool) → entries_of (numbers p es) es ≡ filter p es →
        entries_of (cond b (e.number ∷ numbers p es) (numbers p es)) (e ∷ es) ≡ cond b (e ∷ filter p es) (filter p es)
    by true ih = ap (λ (c : Bool). put_some (cond c (Some e) (entry_at e.number es))
        (entries_of (numbers p es) (e ∷ es))) own ∙ ap (λ (l : List Entered). e ∷ l) (rest ∙ ih)
    by false ih = rest ∙ ih

abbrev shown_as : SchemaModel → List (List ℕ) → Bool → Entered → List KeyedAttribute → SearchResultEntryValue
shown_as s selectors types_only e b = record {
  object_name = printed_name s e.name;
  attributes = attributes_selected s
      selectors types_only (attributes_of b);
}

-- what is shown of a number's entry, by its name and its attributes
pub shown_one : (s : SchemaModel) (selectors : List (List ℕ)) (types_only : Bool) (d : List Entered) (k : ℕ)
    (a : List KeyedAttribute) (x : SearchResultEntryValue) → Some a ≡ option_map (λ (e : Entered). e.entry)
    (entry_at k d)
    → x ≡ record {
      object_name = printed_name s (name_of (entry_at k d));
      attributes = attributes_selected s selectors
          types_only (attributes_of a);
    }
    → x ∷ [] ≡ map (selected s selectors types_only) (map named (entries_of (k ∷ []) d))
shown_one s selectors types_only d k a x h w = by (entry_at k d) h w
  where
    by : (o : Option Entered) → Some a ≡ option_map (λ (e : Entered). e.entry) o →
        x ≡ record {
          object_name = printed_name s (name_of o);
          attributes = attributes_selected s selectors types_only
              (attributes_of a);
        }
        → x ∷ [] ≡ map (selected s selectors types_only) (map named (put_some o []))
    by None g v = absurd (cc g)
    by (Some e) g v =
        let same : a ≡ e.entry = cc g in
        ap (λ (y : SearchResultEntryValue). y ∷ [])
        (v ∙ ap (λ (b : List KeyedAttribute). shown_as s selectors types_only e b) same)

pub shown_none : (s : SchemaModel) (selectors : List (List ℕ)) (types_only : Bool) (d : List Entered) (k : ℕ) →
    ◌≡◌ {A = Option (List KeyedAttribute)} None (option_map (λ (e : Entered). e.entry) (entry_at k d))
    → [] ≡ map (selected s selectors types_only) (map named (entries_of (k ∷ []) d))
shown_none s selectors types_only d k h = by (entry_at k d) h
  where
    by : (o : Option Entered) → ◌≡◌ {A = Option (List KeyedAttribute)} None (option_map (λ (e : Entered). e.entry)
        o) → [] ≡ map (selected s selectors types_only) (map named (put_some o []))
    by None g = refl
    by (Some e) g = absurd (cc g)
