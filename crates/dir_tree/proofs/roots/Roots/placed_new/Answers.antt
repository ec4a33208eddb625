-- What search doesn't prove of `placed_new`: what it returns, by lemmas of `WayChanges`.
use Rattle.std.proofs.Common.{List, [], ◌∷◌, Some, refl, sym, ap, ℕ}
use Rattle.dir_entry.specs.ldap_dn.Names.{RdnModel}
use Rattle.dir_tree.specs.Superiors.{place_at}
use Rattle.dir_tree.specs.private.Superiors.{step_at, below_at, number_among}
use Rattle.dir_tree.proofs.WayChanges.{new_after}
use Rattle.dir_tree.proofs.roots.Roots.placed_new.Goals as goal

pub returns : goal.returns
returns c = record {
  suffix = refl;
  top = refl;
  bound = refl;
  entries = c.in_ok-entries.ensures;
  rises = c.rises.ensures;
  after = new_after c.args.number (Some c.args.standing.place) c.args.self.reach (place_at c.args.self.entries)
      (below_at c.args.self.levels) (below_at c.in_ok-levels.levels) (below_at c.in_ok-levels-2.levels)
      (below_at c.in_ok-levels.levels) (step_at c.args.self.levels) (step_at c.in_ok-levels.levels)
      (step_at c.in_ok-levels-2.levels) c.above_place-above.result (c.args.number ∷ []) c.requires.listed
      c.requires.absent c.above_place-above.ensures (sym c.requires.alone) c.in_ok-levels.ensures
      c.in_ok-levels-2.ensures (λ a x e. ap (λ (l : List (RdnModel × ℕ)). number_among x l) e);
  none = c.new.ensures;
}
