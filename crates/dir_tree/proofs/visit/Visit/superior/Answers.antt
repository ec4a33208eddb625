-- What search doesn't prove of `superior`: the clause `here` and the clause `name`, by lemmas of `Visits`.
use Rattle.std.proofs.Common.{◌≡◌, [], ◌∷◌, ◌++◌, subst, ap}
use Rattle.std.specs.Prelude.{IfSome, is_some, true}
use Rattle.std.specs.Option.{option_map}
use Rattle.dir_tree.specs.Directory.{Entered, TreeModel, entry_at}
use Rattle.dir_tree.specs.declared.place.Standing.{Standing}
use Rattle.dir_tree.proofs.Visits.{here_below, named_below}
use Rattle.dir_tree.proofs.visit.Visit.superior.Goals as goal

pub returns-clause-here : goal.returns-clause-here
returns-clause-here c =
    subst (λ (v : TreeModel). IfSome c.superior_of.result (λ p. is_some (entry_at c.args.number v.entries) ≡ true))
    c.self.view_is
    (here_below c.self.inside.tree.now c.self.inside.entries c.self.invariant.0 c.args.number c.superior_of.result _
    (ap (option_map (λ (s : Standing). s.place)) c.get-standing.ensures.value) c.superior_of.ensures)

pub returns-clause-name : goal.returns-clause-name
returns-clause-name c =
    subst (λ (v : TreeModel). IfSome c.superior_of.result (λ p. option_map (λ (e : Entered). e.name)
    (entry_at c.args.number v.entries) ≡ option_map (λ (e : Entered). e.name ++ p.1.now ∷ [])
    (entry_at p.0 v.entries))) c.self.view_is
    (named_below c.self.inside.tree.now c.self.inside.entries c.self.invariant.0 c.args.number c.superior_of.result _
    (ap (option_map (λ (s : Standing). s.place)) c.get-standing.ensures.value) c.superior_of.ensures)
