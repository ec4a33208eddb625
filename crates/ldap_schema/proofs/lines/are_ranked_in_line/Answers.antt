-- What search doesn't prove of `are_ranked_in_line`: what it returns, by lemmas of `Ordered` and `Ranked`.
use Rattle.std.proofs.Common.{ℕ, List, sym, subst, ◌∙◌}
use Rattle.std.specs.List.Sorted.{IsPermutation, IsNonDecreasingBy}
use Rattle.std.proofs.lemmas.Result.{IfOk-weaker}
use Rattle.ldap_schema.specs.Lines.{rank_in}
use Rattle.ldap_schema.specs.private.Lines.{is_under_in}
use Rattle.ldap_schema.proofs.Ordered.{in_line_by_rank}
use Rattle.ldap_schema.proofs.Ranked.{ranked_order}
use Rattle.ldap_schema.proofs.lines.are_ranked_in_line.Goals as goal

pub returns : goal.returns
returns c =
    IfOk-weaker c.all_fall.result _ _
    (λ b e.
    e
    ∙ in_line_by_rank (is_under_in c.args.classes.now) c.args.ranks.now (ranked_order c.args.classes.now
    c.args.ranks.now c.requires.known c.requires.ranking) c.args.named.now c.as_slice.result.now
    (subst (λ (x : List ℕ). IsPermutation c.args.named.now x) (sym c.as_slice.ensures.value)
    c.in_ok-sorted.ensures.same)
    (subst (λ (x : List ℕ). IsNonDecreasingBy (rank_in c.args.ranks.now) x) (sym c.as_slice.ensures.value)
    c.in_ok-sorted.ensures.rising))
    c.all_fall.ensures
