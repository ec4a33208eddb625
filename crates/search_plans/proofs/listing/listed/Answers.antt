-- What search doesn't prove of `listed`: the clause `same` and the clause `exact`, by lemmas of `Rising`.
use Rattle.std.proofs.Common.{◌||◌, sym, ap, ◌∙◌}
use Rattle.std.specs.List.{list_any}
use Rattle.dir_index.specs.Postings.{has_number}
use Rattle.search_plans.specs.Sets.{is_in}
use Rattle.search_plans.specs.private.Sets.{is_listed}
use Rattle.search_plans.proofs.Rising.{any_map}
use Rattle.search_plans.proofs.listing.listed.Goals as goal

pub returns-clause-same : goal.returns-clause-same
returns-clause-same g c = c.in_ok-push_listed.ensures.same c.if-not-branch.false
    (g.K.PostingLists.lists c.args.kept.now)

pub returns-clause-exact : goal.returns-clause-exact
returns-clause-exact g c = λ scope n.
    let walks = rw c.deref-2.ensures.value at c.in_ok-walks.ensures.exact in
    let sets = rw c.deref.ensures.value at c.in_ok-sets.ensures in
    walks n
    ∙ sym (any_map (has_number n) (λ s. s.now) c.in_ok-sets.sets.items)
    ∙ ap (list_any (has_number n)) sets
    ∙ any_map (has_number n) (λ p. (g.K.PostingLists.lists c.args.kept.now).posting p.now) c.push_listed.new.into.items
    ∙ c.in_ok-push_listed.ensures.exact c.if-not-branch.false (g.K.PostingLists.lists c.args.kept.now) scope n
    ∙ ap (λ ps. list_any (λ p. is_listed (g.K.PostingLists.lists c.args.kept.now) n p.now) ps || is_in
    (g.K.PostingLists.lists c.args.kept.now) scope c.args.one.now n) c.new-postings.ensures.items
