-- What search doesn't prove of `bind_match`: the clause `value` and the clause `parts`, by lemmas of `Matches` and
-- `Made`.
use Rattle.std.proofs.Common.{sym, ◌∙◌}
use Rattle.ldap_eval.proofs.Matches.{MatchLaws, bound_matches, bound_unmatched}
use Rattle.ldap_eval.proofs.Made.{matches_made, unmatched_made}
use Rattle.ldap_eval.proofs.binding.bind_match.Goals as goal

pub returns-clause-value : goal.returns-clause-value
returns-clause-value c = λ below n e k.
    let laws : MatchLaws = record {
      values = c.matches_are_items.ensures.values;
      pairs =
          c.matches_are_items.ensures.pairs;
    } in
    bound_matches c.args.schema.now c.args.item.now.how c.args.item.now.asked_type.now c.args.item.now.assertion.now
    c.args.dn_attributes c.in_ok-matches.field-0
    laws below (sym c.in_ok-is_matched.ensures ∙ c.if-not-branch.false) c.in_ok-matches.ensures n e k

pub returns-clause-parts : goal.returns-clause-parts
returns-clause-parts c =
    matches_made c.args.schema.now c.args.item.now.how c.args.item.now.asked_type.now c.args.item.now.assertion.now
    c.args.dn_attributes c.in_ok-matches.field-0
    (sym c.in_ok-is_matched.ensures ∙ c.if-not-branch.false) c.in_ok-matches.ensures

pub returns-then-not-branch-clause-value : goal.returns-then-not-branch-clause-value
returns-then-not-branch-clause-value c = λ below n e k.
    bound_unmatched c.args.schema.now c.args.item.now.how c.args.item.now.asked_type.now c.args.item.now.assertion.now
    c.args.dn_attributes (sym c.in_ok-is_matched.ensures ∙ c.if-not-branch.true) n e

pub returns-then-not-branch-clause-parts : goal.returns-then-not-branch-clause-parts
returns-then-not-branch-clause-parts c =
    unmatched_made c.args.schema.now c.args.item.now.how c.args.item.now.asked_type.now c.args.item.now.assertion.now
    c.args.dn_attributes (sym c.in_ok-is_matched.ensures ∙ c.if-not-branch.true)
