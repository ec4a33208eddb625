-- Classes under classes: RFC 4512 2.4 and 2.4.2.
use Rattle.std.specs.Prelude.{ℕ, zero, suc, ◌+◌, List, [], ◌∷◌, ◌++◌, Bool, true, cond, ◌||◌, drop, Option, None, Some, ◌≡◌, length, nat_eq, nat_lt, slice_get}
use Rattle.std.specs.List.{list_any, list_all}
use Rattle.ldap_schema.specs.Schema.{ClassModel, SchemaModel}

-- whether a number is one of these
abbrev pub is_among : List ℕ → ℕ → Bool
is_among cs c = list_any (nat_eq c) cs

-- the direct superclasses of a class, where there is one
abbrev pub superclasses_in : Option ClassModel → List ℕ
superclasses_in None = []
superclasses_in (Some c) = c.superiors

-- the classes that a class is a direct subclass of, in the order written (RFC 4512 4.1.1)
abbrev pub direct_superclasses : List ClassModel → ℕ → List ℕ
direct_superclasses classes c = superclasses_in (slice_get classes c)

-- these classes, and of the others each one that is missing at the end
abbrev pub with_missing : List ℕ → List ℕ → List ℕ
with_missing have [] = have
with_missing have (c ∷ cs) = with_missing (cond (is_among have c) have (have ++ c ∷ [])) cs

-- on from the class at a place; an end, where there is no class at it
abbrev pub gone_on : Option ℕ → List ℕ → (ℕ → List ℕ) → List ℕ
gone_on None have next = have
gone_on (Some c) have next = next c

-- in so many steps, for each class from a place on, its direct superclasses that are missing are added at the end
abbrev pub filled_from : ℕ → List ClassModel → ℕ → List ℕ → List ℕ
filled_from zero classes i have = have
filled_from (suc k) classes i have = gone_on (slice_get have i) have (λ c. filled_from k classes (i + 1)
    (with_missing have (direct_superclasses classes c)))

-- these classes, and behind them their superclasses that are missing, in a step for each of these and of all classes at
-- most
abbrev pub filled : List ClassModel → List ℕ → List ℕ
filled classes cs = filled_from (length cs + length classes) classes 0 cs

-- These classes, and at the end their superclasses that are missing: for each class in turn, added ones included, its
-- direct superclasses in the order written (RFC 4512 2.4).
abbrev pub with_superclasses : SchemaModel → List ℕ → List ℕ
with_superclasses s cs = filled s.classes cs

-- of these classes the superclasses that are missing, in order
abbrev pub missing_superclasses : SchemaModel → List ℕ → List ℕ
missing_superclasses s cs = drop (length cs) (with_superclasses s cs)

-- A class under another: it is the class, or one of its superclasses is (RFC 4512 2.4).
abbrev pub is_subclass : SchemaModel → ℕ → ℕ → Bool
is_subclass s a b = nat_eq a b || is_among (with_superclasses s (a ∷ [])) b

-- the chain of superclasses from one class to another
pub data IsSubclass (s : SchemaModel) : ℕ → ℕ → Type 0 where
  is_itself : {a : ℕ} → IsSubclass s a a
  goes_up : {a c : ℕ} (b : ℕ) → is_among (direct_superclasses s.classes a) b ≡ true → IsSubclass s b c →
      IsSubclass s a c

-- whether the direct superclasses of a class are of so many classes
abbrev pub has_known_superclasses : ℕ → ClassModel → Bool
has_known_superclasses n c = list_all (λ d. nat_lt d n) c.superiors

-- Each superclass is a class of the schema.
abbrev pub AreSuperclassesKnown : List ClassModel → Type 0
AreSuperclassesKnown classes = list_all (has_known_superclasses (length classes)) classes ≡ true
