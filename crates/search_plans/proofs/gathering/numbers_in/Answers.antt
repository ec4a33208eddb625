-- What search doesn't prove of `numbers_in`: the clause `same` and the clause `rising`, by lemmas of `Sorted`.
use Rattle.std.proofs.Common.{◌∙◌, ◌||◌, List, ℕ, ap}
use Rattle.dir_index.specs.Postings.{has_number}
use Rattle.search_plans.proofs.Sorted.{sorted_has, sorted_rising}
use Rattle.search_plans.proofs.gathering.numbers_in.Goals as goal

pub returns-clause-same : goal.returns-clause-same
returns-clause-same g c = λ n.
    sorted_has c.push_range.new.into.items c.sort_unstable.new.self.items c.dedup.new.self.items n
    c.sort_unstable.ensures.permutation c.dedup.ensures.filtered
    ∙ c.in_ok-push_range.ensures n
    ∙ ap (λ (xs : List ℕ). has_number n xs || has_number n ((g.K.PostingLists.lists c.args.kept.now).range
    c.args.range.now)) c.new-numbers.ensures.items

pub returns-clause-rising : goal.returns-clause-rising
returns-clause-rising g c = sorted_rising _ _ c.sort_unstable.ensures.sorted c.dedup.ensures.filtered
