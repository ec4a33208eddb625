-- What search doesn't prove of `replaced`: the clause `tree` and the clause `shown`, by lemmas of `Shown` and
-- `TreeSteps`.
use Rattle.std.proofs.Common.{ℕ, List, ap, refl, sym, ◌∙◌, subst}
use Rattle.std.specs.Ordering.{nat_cmp}
use Rattle.dir_entry.specs.shared_map.Entries.{Rises}
use Rattle.dir_tree.specs.declared.roots.Roots.{Roots}
use Rattle.dir_tree.specs.declared.place.Standing.{Standing}
use Rattle.dir_tree.specs.Superiors.{place_at}
use Rattle.dir_tree.specs.Kept.{shown}
use Rattle.dir_tree.specs.private.Kept.{IsTree}
use Rattle.dir_tree.proofs.Shown.{replaced-none}
use Rattle.dir_tree.proofs.TreeSteps.{replaced_tree, replaced_shown}
use Rattle.dir_tree.proofs.roots.Roots.replaced.Goals as goal

pub returns-in_ok-roots-in-Some-clause-tree : goal.returns-in_ok-roots-in-Some-clause-tree
returns-in_ok-roots-in-Some-clause-tree c =
    let is = c.in_ok-roots-in-Some.ensures.is in
    subst IsTree (sym is)
    (replaced_tree c.args.self c.args.number c.in-Some.standing.now _ _ c.requires
    (sym c.in-Some.ensures) c.in_ok-share-in-Some.ensures c.in_ok-share-in-Some-2.ensures refl
    (subst (λ (es : List (ℕ × Standing)). Rises nat_cmp es) (ap (λ (r : Roots). r.entries) is)
    c.in_ok-roots-in-Some.ensures.rises))

pub returns-in_ok-roots-in-Some-clause-shown : goal.returns-in_ok-roots-in-Some-clause-shown
returns-in_ok-roots-in-Some-clause-shown c =
    ap shown c.in_ok-roots-in-Some.ensures.is
    ∙ replaced_shown c.args.self c.args.number c.in-Some.standing.now _ _ c.requires
    (sym c.in-Some.ensures) c.in_ok-share-in-Some.ensures refl

pub returns-in-None-clause-shown : goal.returns-in-None-clause-shown
returns-in-None-clause-shown c =
    sym (replaced-none c.args.self.reach (place_at c.args.self.entries)
    c.args.number c.args.entry c.args.self.entries (sym c.in-None.ensures))
