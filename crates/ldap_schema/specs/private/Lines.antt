-- Classes in line (RFC 4512 2.4.2), and the ranks by which they are put in order: what contracts that aren't public say
-- of it. What public contracts say is in specs/Lines.
use Rattle.std.specs.Prelude.{ℕ, List, [], ◌∷◌, Bool, true, cond, ◌&&◌, ◌||◌, ◌≡◌, ◌<◌, nat_eq, nat_le, nat_lt, map, filter}
use Rattle.ldap_schema.specs.Schema.{ClassModel}
use Rattle.ldap_schema.specs.Superclasses.{is_among, direct_superclasses, filled}
use Rattle.ldap_schema.specs.Lines.{rank_in}

-- a class under another, of a table of classes: it is the class, or one of its superclasses is
abbrev pub is_under_in : List ClassModel → ℕ → ℕ → Bool
is_under_in classes a b = nat_eq a b || is_among (filled classes (a ∷ [])) b

-- each class is above the one behind it
abbrev pub falls : (ℕ → ℕ → Bool) → ℕ → List ℕ → Bool
falls under a [] = true
falls under a (b ∷ bs) = under b a && falls under b bs

-- each class of a list is above the one behind it
abbrev pub falls_whole : (ℕ → ℕ → Bool) → List ℕ → Bool
falls_whole under [] = true
falls_whole under (a ∷ bs) = falls under a bs

-- Each class has a greater rank than its direct superclasses.
abbrev pub IsRanking : List ClassModel → List ℕ → Type 0
IsRanking classes ranks = (c u : ℕ) → is_among (direct_superclasses classes c) u ≡ true → rank_in ranks u < rank_in
    ranks c

-- of the classes below a number each has a greater rank than its direct superclasses
abbrev pub IsRankingBelow : List ClassModel → List ℕ → ℕ → Type 0
IsRankingBelow classes ranks n = (c u : ℕ) → c < n → is_among (direct_superclasses classes c) u ≡ true →
    rank_in ranks u < rank_in ranks c

-- a class of the greatest rank
abbrev pub greatest : List ℕ → ℕ → List ℕ → ℕ
greatest ranks best [] = best
greatest ranks best (c ∷ cs) = greatest ranks (cond (nat_lt (rank_in ranks best) (rank_in ranks c)) c best) cs

-- the classes, of whose direct superclasses those stay that have at least this rank
abbrev pub cut_class : List ℕ → ℕ → ClassModel → ClassModel
cut_class ranks low c = record c { superiors = filter (λ u. nat_le low (rank_in ranks u)) c.superiors }

-- the classes, each with those alone of its direct superclasses that have at least this rank
abbrev pub cut : List ℕ → ℕ → List ClassModel → List ClassModel
cut ranks low classes = map (cut_class ranks low) classes
