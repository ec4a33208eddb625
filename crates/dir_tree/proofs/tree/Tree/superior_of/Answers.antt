-- What search doesn't prove of `superior_of`: the clause `here` and the clause `name`, by lemmas of `TreeReads` and
-- `Visits`.
use Rattle.std.proofs.Common.{◌≡◌, [], ◌∷◌, ◌++◌, subst, refl}
use Rattle.std.specs.Prelude.{IfSome, is_some, true}
use Rattle.std.specs.Option.{option_map}
use Rattle.dir_tree.specs.Directory.{Entered, TreeModel, entry_at}
use Rattle.dir_tree.specs.Kept.{shown}
use Rattle.dir_tree.specs.private.Visits.{IsVisit}
use Rattle.dir_tree.proofs.TreeReads.{entry_read, under_read}
use Rattle.dir_tree.proofs.Visits.{here_below, named_below}
use Rattle.dir_tree.proofs.tree.Tree.superior_of.Goals as goal

pub returns-clause-here : goal.returns-clause-here
returns-clause-here c =
    let d : TreeModel = record { suffix = []; entries = shown c.self.inside.roots } in
    let visit : IsVisit d c.self.inside.roots.entries = record {
      entries = entry_read c.self.inside.roots
          c.self.invariant;
      names = under_read c.self.inside.roots c.self.invariant;
    } in
    subst (λ (v : TreeModel). IfSome c.superior_of.result (λ p. is_some (entry_at c.args.number v.entries) ≡ true))
    c.self.view_is
    (here_below d c.self.inside.roots.entries visit c.args.number c.superior_of.result _ refl c.superior_of.ensures)

pub returns-clause-name : goal.returns-clause-name
returns-clause-name c =
    let d : TreeModel = record { suffix = []; entries = shown c.self.inside.roots } in
    let visit : IsVisit d c.self.inside.roots.entries = record {
      entries = entry_read c.self.inside.roots
          c.self.invariant;
      names = under_read c.self.inside.roots c.self.invariant;
    } in
    subst (λ (v : TreeModel). IfSome c.superior_of.result (λ p. option_map (λ (e : Entered). e.name)
    (entry_at c.args.number v.entries) ≡ option_map (λ (e : Entered). e.name ++ p.1.now ∷ [])
    (entry_at p.0 v.entries))) c.self.view_is
    (named_below d c.self.inside.roots.entries visit c.args.number c.superior_of.result _ refl c.superior_of.ensures)
