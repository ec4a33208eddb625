-- Values that are looked for by a look at each.
use Rattle.std.proofs.Common.{◌≡◌, ℕ, Bool, not, List, ◌++◌, is_some, sym, ap, ◌∙◌, subst, map}
use Rattle.std.specs.List.{list_any, list_all}
use Rattle.std.specs.Str.{bytes_eq}
use Rattle.dir_entry.specs.ldap_schema.Schema.{SchemaModel}
use Rattle.dir_entry.specs.ldap_schema.Rules.{equality_of}
use Rattle.dir_entry.specs.ldap_match.Keyed.{AreKeysOf}
use Rattle.dir_entry.specs.Entry.{KeyedAttribute}
use Rattle.dir_entry.specs.Picked.{picked}
use Rattle.dir_entry.proofs.Equivalents.{TestsAreItems}
use Rattle.dir_entry.proofs.Keyed.{keyed_join, keyed_picked}
use Rattle.entry_changes.specs.Editing.{holds, values_left}
use Rattle.entry_changes.specs.Opening.{octets_by}
use Rattle.entry_changes.proofs.Marked.{any_marked, all_marked, marks_turned, kept_left}
use Rattle.entry_changes.proofs.Indexing.{marks_held}

module _ (law : TestsAreItems) (s : SchemaModel) (held given : KeyedAttribute) (e : held.kind ≡ given.kind)
    (h : AreKeysOf s held.kind held.values held.keys) (k : AreKeysOf s given.kind given.values given.keys)
    (by : Bool) (is : by ≡ is_some (equality_of s held.kind)) where
  marks : map (λ q. list_any (bytes_eq q) (octets_by by held)) (octets_by by given) ≡
      map (holds s given.kind held.values) given.values
  marks = ap (λ (b : Bool). map (λ q. list_any (bytes_eq q) (octets_by b held)) (octets_by b given)) is
      ∙ marks_held law s held given e h k

  -- whether some of the given values are held
  pub some_found : list_any (λ q. list_any (bytes_eq q) (octets_by by held)) (octets_by by given) ≡
      list_any (holds s given.kind held.values) given.values
  some_found =
      sym (any_marked (λ q. list_any (bytes_eq q) (octets_by by held)) (octets_by by given))
      ∙ ap (list_any (λ m. m)) marks
      ∙ any_marked (holds s given.kind held.values) given.values

  -- whether all of them are
  pub all_found : list_all (λ q. list_any (bytes_eq q) (octets_by by held)) (octets_by by given) ≡
      list_all (holds s held.kind held.values) given.values
  all_found =
      sym (all_marked (λ q. list_any (bytes_eq q) (octets_by by held)) (octets_by by given))
      ∙ ap (list_all (λ m. m)) marks
      ∙ all_marked (holds s given.kind held.values) given.values
      ∙ ap (λ (t : ℕ). list_all (holds s t held.values) given.values) (sym e)

  -- what is left without them
  pub values_found : (vs : List (List ℕ)) (ms : List Bool) → vs ≡ picked ms held.values →
      ms ≡ map (λ x. not (list_any (bytes_eq x) (octets_by by given))) (octets_by by held) →
      vs ≡ values_left s held.kind given.values held.values
  values_found vs ms w m =
      kept_left (holds s held.kind given.values) held.values vs ms
      (map (λ x. list_any (bytes_eq x) (octets_by by given)) (octets_by by held)) w
      (m ∙ sym (marks_turned (λ x. list_any (bytes_eq x) (octets_by by given)) (octets_by by held)))
      (ap (λ (b : Bool). map (λ x. list_any (bytes_eq x) (octets_by b given)) (octets_by b held)) is
      ∙ ap (λ (t : ℕ). map (λ x. list_any (bytes_eq x) (octets_by (is_some (equality_of s t)) given))
      (octets_by (is_some (equality_of s t)) held)) e
      ∙ marks_held law s given held (sym e) k h)

-- the keys of values after others
pub keyed_after : (s : SchemaModel) (held given a : KeyedAttribute) → held.kind ≡ given.kind →
    AreKeysOf s held.kind held.values held.keys → AreKeysOf s given.kind given.values given.keys
    → a.kind ≡ held.kind → a.values ≡ held.values ++ given.values → a.keys ≡ held.keys ++ given.keys →
    AreKeysOf s a.kind a.values a.keys
keyed_after s held given a e h k t v w =
    subst (λ (u : ℕ). AreKeysOf s u a.values a.keys) (sym t)
    (subst (λ (vs : List (List ℕ)). AreKeysOf s held.kind vs a.keys) (sym v)
    (subst (λ (ks : List (List ℕ)). AreKeysOf s held.kind (held.values ++ given.values) ks) (sym w)
    (keyed_join s held.kind held.values held.keys given.values given.keys h
    (subst (λ (u : ℕ). AreKeysOf s u given.values given.keys) (sym e) k))))

-- the keys of values that are marked
pub keyed_marked : (s : SchemaModel) (held a : KeyedAttribute) (ms : List Bool) → AreKeysOf s held.kind held.values
    held.keys
    → a.kind ≡ held.kind → a.values ≡ picked ms held.values → a.keys ≡ picked ms held.keys →
    AreKeysOf s a.kind a.values a.keys
keyed_marked s held a ms h t v w =
    subst (λ (u : ℕ). AreKeysOf s u a.values a.keys) (sym t)
    (subst (λ (vs : List (List ℕ)). AreKeysOf s held.kind vs a.keys) (sym v)
    (subst (λ (ks : List (List ℕ)). AreKeysOf s held.kind (picked ms held.values) ks) (sym w)
    (keyed_picked s held.kind ms held.values held.keys h)))
