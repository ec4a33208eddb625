-- What search doesn't prove of `numbers_of_each`: what it returns, by lemmas of `Lookups`.
use Rattle.std.proofs.Common.{◌≡◌, ◌≤◌, ℕ, List, [], ◌++◌, length, drop, map, sym, ap, ◌∙◌}
use Rattle.std.proofs.lemmas.List.{append-nil, drop_all}
use Rattle.std.specs.Prelude.{option_copied}
use Rattle.std.specs.Map.{lookup}
use Rattle.std.specs.BTreeMap.{is_at}
use Rattle.dir_index.specs.ListKeys.{key_of, list_order}
use Rattle.dir_index.proofs.Lookups.{each_found}
use Rattle.dir_index.proofs.postings.Postings.numbers_of_each.Goals as goal

ended : {X Y : Type 0} (f : X → Y) (so_far : List Y) (xs : List X) (i : ℕ) → length xs ≤ i →
    so_far ++ map f (drop i xs) ≡ map f xs → so_far ≡ map f xs
ended f so_far xs i le h = sym (append-nil so_far) ∙ ap (λ ys. so_far ++ map f ys) (sym (drop_all i xs le)) ∙ h

pub returns : goal.returns
returns c =
    let lists = ap (λ m. m.lists) c.self.view_is in
    let found = rw lists at c.in_ok-found.ensures in
    ended _ _ _ c.loop-one.one-index c.loop-one-test.false c.loop-one.invariant
    ∙ rw c.deref-one-items.ensures.value (each_found option_copied (λ p. lookup (is_at (list_order (key_of p.now)))
    c.args.self.now.lists) [] c.in_ok-found.found.items c.args.postings.now found)
