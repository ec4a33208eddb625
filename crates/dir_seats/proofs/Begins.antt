-- Beginnings of lists of executed records, and how they go together.
use Rattle.std.proofs.Common.{◌≡◌, ℕ, List, [], ◌∷◌, ◌++◌, length, drop, true, refl, ap, sym, subst, ◌∙◌, append_assoc, append-nil, arith, Result, Ok, Err, MatchResult}
use Rattle.std.proofs.Math.Seq.{drop-append_seam}
use Rattle.std.proofs.lemmas.List.{length-append}
use mathlib.Core.List.{IsPrefix}
use Rattle.vr_state.specs.Words.{LogEntry}
use Rattle.dir_seats.specs.state_machine.dir_store.ldap_op.Values.{OpValue}
use Rattle.dir_seats.specs.state_machine.Executing.{ExecutedValue}
use Rattle.dir_seats.specs.Lists.{with_records, IsBeginning}
use Rattle.dir_seats.specs.Rule.{Floor}
use Rattle.dir_seats.specs.Showing.{latest, showing}
use Rattle.dir_seats.specs.private.Showing.{HoldsVersions}

prefix_trans : (xs ys zs : List (LogEntry OpValue)) → IsPrefix xs ys → IsPrefix ys zs → IsPrefix xs zs
prefix_trans xs ys zs p q = (p.0 ++ q.0, sym (append_assoc xs p.0 q.0) ∙ (ap (λ w. w ++ q.0) p.1 ∙ q.1))

pub begins_self : (v : ExecutedValue) → IsBeginning v v
begins_self v = record { schema = refl; suffix = refl; indexes = refl; records = ([], append-nil v.records) }

pub begins_trans : (u v w : ExecutedValue) → IsBeginning u v → IsBeginning v w → IsBeginning u w
begins_trans u v w p q = record {
  schema = q.schema ∙ p.schema;
  suffix = q.suffix ∙ p.suffix;
  indexes = q.indexes ∙ p.indexes;
  records = prefix_trans u.records v.records w.records p.records q.records;
}

-- what has the parts of another is that other
same_parts : (a b : ExecutedValue) → a.schema ≡ b.schema → a.suffix ≡ b.suffix → a.indexes ≡ b.indexes →
    a.records ≡ b.records → a ≡ b
same_parts a b schema suffix indexes records =
    ap (λ x. record { schema = x; suffix = a.suffix; indexes = a.indexes; records = a.records }) schema
    ∙ ap (λ x. record { schema = b.schema; suffix = x; indexes = a.indexes; records = a.records }) suffix
    ∙ ap (λ x. record { schema = b.schema; suffix = b.suffix; indexes = x; records = a.records }) indexes
    ∙ ap (λ x. record { schema = b.schema; suffix = b.suffix; indexes = b.indexes; records = x }) records

-- the rest behind a beginning
rest_is : (xs ys : List (LogEntry OpValue)) → (p : IsPrefix xs ys) → drop (length xs) ys ≡ p.0
rest_is xs ys p = ap (drop (length xs)) (sym p.1) ∙ drop-append_seam xs p.0

-- a beginning, with what the other has beyond it, is the other
pub filled_up : (a b : ExecutedValue) → IsBeginning a b → with_records a (drop (length a.records) b.records) ≡ b
filled_up a b p =
    same_parts _ _ (sym p.schema) (sym p.suffix) (sym p.indexes)
    (ap (λ l. a.records ++ l) (rest_is a.records b.records p.records) ∙ p.records.1)

none_left : (xs ys : List (LogEntry OpValue)) → length xs ≡ length (xs ++ ys) → ys ≡ []
none_left xs [] h = refl
none_left xs (y ∷ ys) h = absurd (omega (arith, length-append xs (y ∷ ys), h))

-- a beginning of as many records is the whole
pub as_long : (a b : ExecutedValue) → IsBeginning a b → length a.records ≡ length b.records → a ≡ b
as_long a b p h =
    let none : p.records.0 ≡ [] = none_left a.records p.records.0 (h ∙ ap length (sym p.records.1)) in
    same_parts _ _ (sym p.schema) (sym p.suffix) (sym p.indexes) (sym (append-nil a.records)
    ∙ (ap (λ l. a.records ++ l) (sym none) ∙ p.records.1))

-- the version that comes last is the latest
pub latest_more : (v : ExecutedValue) (nexts : List ExecutedValue) (next : ExecutedValue) →
    latest v (nexts ++ next ∷ []) ≡ next
latest_more v [] next = refl
latest_more v (x ∷ xs) next = latest_more x xs next

begins_more : (v : ExecutedValue) (es : List (LogEntry OpValue)) → IsBeginning v (with_records v es)
begins_more v es = record { schema = refl; suffix = refl; indexes = refl; records = (es, refl) }

latest_is : (shown : ExecutedValue) (nexts more : List ExecutedValue) (next executed : ExecutedValue) →
    more ≡ nexts ++ next ∷ [] → next ≡ executed → latest shown more ≡ executed
latest_is shown nexts more next executed is same = ap (latest shown) is ∙ (latest_more shown nexts next ∙ same)

-- what was shown and was to be shown, with records behind it, begins with what was shown
follows_shown : (shown : ExecutedValue) (nexts : List ExecutedValue) (executed : ExecutedValue)
    → IsBeginning (with_records (showing shown nexts).published (showing shown nexts).waiting) executed →
    IsBeginning shown executed
follows_shown shown nexts executed h = begins_trans shown (with_records shown (showing shown nexts).waiting) executed
    (begins_more shown (showing shown nexts).waiting) h

-- one version more is to be shown
pub holds_more : (floor : Floor) (shown : ExecutedValue) (nexts more : List ExecutedValue) (count n : ℕ)
    (next executed : ExecutedValue)
    → HoldsVersions floor shown nexts count → more ≡ nexts ++ next ∷ [] → next ≡ executed
    → IsBeginning (with_records (showing shown nexts).published (showing shown nexts).waiting) executed →
    n ≡ length executed.records
    → HoldsVersions floor shown more n
holds_more floor shown nexts more count n next executed h is same follows number =
    let e = latest_is shown nexts more next executed is same in record {
      known = h.known;
      begins = subst (λ (v : ExecutedValue). IsBeginning shown v) (sym e) (follows_shown shown nexts executed follows);
      records = number ∙ ap (λ (v : ExecutedValue). length v.records) (sym e);
    }

-- then what is to be shown is what was executed
pub waits_for : (shown : ExecutedValue) (nexts more : List ExecutedValue) (next executed : ExecutedValue) →
    more ≡ nexts ++ next ∷ [] → next ≡ executed
    → IsBeginning (with_records (showing shown nexts).published (showing shown nexts).waiting) executed
    → with_records (showing shown more).published (showing shown more).waiting ≡ executed
waits_for shown nexts more next executed is same follows =
    let e = latest_is shown nexts more next executed is same in
    filled_up shown (latest shown more) (subst (λ (v : ExecutedValue). IsBeginning shown v) (sym e)
    (follows_shown shown nexts executed follows)) ∙ e

-- the latest version is shown
pub holds_shown : (floor new_floor : Floor) (shown now : ExecutedValue) (nexts none : List ExecutedValue) (count : ℕ)
    → HoldsVersions floor shown nexts count → now ≡ latest shown nexts → none ≡ [] → new_floor ≡ (true, now)
    → HoldsVersions new_floor now none count
holds_shown floor new_floor shown now nexts none count h is empty known = record {
  known = known;
  begins = subst (λ (l : List ExecutedValue). IsBeginning now (latest now l)) (sym empty) (begins_self now);
  records =
      h.records ∙ (ap (λ (v : ExecutedValue). length v.records) (sym is)
      ∙ ap (λ (l : List ExecutedValue). length (latest now l).records) (sym empty));
}

-- two facts for each variant, put together
pub both : {T E : Type 0} {A B C D G H : Type 0} (r : Result T E) → MatchResult r (λ _. A) (λ _. B) →
    MatchResult r (λ _. C) (λ _. D) → (A → C → G) → (B → D → H) → MatchResult r (λ _. G) (λ _. H)
both (Ok x) a c f g = f a c
both (Err e) b d f g = g b d
