-- What search doesn't prove of `numbers_of_each`: what it returns, step by step.
use Rattle.std.proofs.Common.{◌≡◌, List, [], ◌∷◌, map, Result, Ok, Err, IfOk, refl, ap, ap₂, ◌∙◌}
use Rattle.dir_index.specs.Whole.{list_of}
use Rattle.indexed_tree.specs.Listed.{IndexedModel, lists_of}
use Rattle.indexed_tree.proofs.indexed.IndexedTreePostingLists.numbers_of_each.Goals as goal

map_same : {X Y : Type 0} (f g : X → Y) → ((x : X) → f x ≡ g x) → (xs : List X) → map f xs ≡ map g xs
map_same f g same [] = refl
map_same f g same (x ∷ xs) = ap₂ ◌∷◌ (same x) (map_same f g same xs)

ok_weaker : {A E : Type 0} (P Q : A → Type 0) → ((a : A) → P a → Q a) → (r : Result A E) → IfOk r P → IfOk r Q
ok_weaker P Q f (Ok a) h = f a h
ok_weaker P Q f (Err e) h = tt

pub returns : goal.returns
returns c =
    ok_weaker _ _
    (λ v h. h ∙ map_same (λ p. list_of c.self.inside.postings p.now) (λ p. (lists_of c.args.self.now).posting p.now)
    (λ p. c.self.invariant.postings p.now ∙ ap (λ (t : IndexedModel). (lists_of t).posting p.now) c.self.view_is)
    c.args.postings.now)
    c.numbers_of_each.result c.numbers_of_each.ensures
