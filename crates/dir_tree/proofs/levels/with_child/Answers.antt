-- What search doesn't prove of `with_child`, by lemmas of `LevelFacts`.
use Rattle.std.proofs.Common.{◌≡◌, ℕ, List, cond, nat_eq, refl, ap, ◌∙◌}
use Rattle.dir_tree.specs.declared.place.Below.{Below}
use Rattle.dir_tree.specs.private.Superiors.{below_at}
use Rattle.dir_tree.specs.private.Changes.{child_put}
use Rattle.dir_tree.proofs.LevelFacts.{below_put, child_steps, child_more, put_within}
use Rattle.dir_tree.proofs.levels.with_child.Goals as goal

put : (c : goal.In_ok-now) (a : ℕ) → below_at c.in_ok-now.now a ≡ cond (nat_eq a c.args.above) (child_put
    (below_at c.args.levels c.args.above) c.args.rdn c.args.number) (below_at c.args.levels a)
put c a = ap (λ (l : List (ℕ × Below)). below_at l a) c.in_ok-now.ensures ∙ below_put c.args.levels c.args.above
    (child_put (below_at c.args.levels c.args.above) c.args.rdn c.args.number) a

pub returns-clause-steps : goal.returns-clause-steps
returns-clause-steps c =
    child_steps (below_at c.args.levels) (below_at c.in_ok-now.now) c.args.above (child_put (below_at c.args.levels
    c.args.above) c.args.rdn c.args.number) (put c) (below_at c.args.levels c.args.above).names refl c.args.rdn
    c.args.rdn refl c.args.number refl

pub returns-clause-children : goal.returns-clause-children
returns-clause-children c =
    child_more (below_at c.args.levels) (below_at c.in_ok-now.now) c.args.above (child_put (below_at c.args.levels
    c.args.above) c.args.rdn c.args.number) (put c) (below_at c.args.levels c.args.above).children refl c.args.number
    refl

pub returns-clause-within : goal.returns-clause-within
returns-clause-within c =
    put_within (below_at c.args.levels) (below_at c.in_ok-now.now) c.args.above (child_put (below_at c.args.levels
    c.args.above) c.args.rdn c.args.number) (put c) refl
