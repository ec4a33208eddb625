-- What search doesn't prove of `with_number`, by lemmas of `LevelFacts`.
use Rattle.std.proofs.Common.{◌≡◌, ℕ, Bool, true, false, List, [], ◌∷◌, ◌||◌, cond, nat_eq, refl, ap, ◌∙◌}
use Rattle.dir_entry.specs.shared_map.Sets.{has_number}
use Rattle.dir_tree.specs.declared.place.Below.{Below}
use Rattle.dir_tree.specs.private.Superiors.{below_at}
use Rattle.dir_tree.specs.private.Changes.{within_put}
use Rattle.dir_tree.proofs.Kept.{has-put}
use Rattle.dir_tree.proofs.LevelFacts.{below_put, put_names, put_children, more_within}
use Rattle.dir_tree.proofs.levels.with_number.Goals as goal

put : (c : goal.In_ok-now) (a : ℕ) → below_at c.in_ok-now.now a ≡ cond (nat_eq a c.args.at) (within_put
    (below_at c.args.levels c.args.at) c.args.number) (below_at c.args.levels a)
put c a = ap (λ (l : List (ℕ × Below)). below_at l a) c.in_ok-now.ensures ∙ below_put c.args.levels c.args.at
    (within_put (below_at c.args.levels c.args.at) c.args.number) a

alone : (b : Bool) → b ≡ (b || false)
alone true = refl
alone false = refl

pub returns-clause-names : goal.returns-clause-names
returns-clause-names c =
    put_names (below_at c.args.levels) (below_at c.in_ok-now.now) c.args.at (within_put (below_at c.args.levels
    c.args.at) c.args.number) (put c) refl

pub returns-clause-children : goal.returns-clause-children
returns-clause-children c =
    put_children (below_at c.args.levels) (below_at c.in_ok-now.now) c.args.at (within_put (below_at c.args.levels
    c.args.at) c.args.number) (put c) refl

pub returns-clause-within : goal.returns-clause-within
returns-clause-within c =
    more_within (below_at c.args.levels) (below_at c.in_ok-now.now) c.args.at (within_put (below_at c.args.levels
    c.args.at) c.args.number) (put c) (λ j. has_number j (c.args.number ∷ []))
    (λ j. has-put j c.args.number (below_at c.args.levels c.args.at).within
    ∙ ap (λ (b : Bool). b || has_number j (below_at c.args.levels c.args.at).within) (alone (nat_eq j c.args.number)))
