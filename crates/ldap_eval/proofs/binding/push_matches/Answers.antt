-- What search doesn't prove of `push_matches`: `loop-number-preserved`, by lemmas of `Matches`.
use Rattle.std.proofs.Common.{Vec, Global, ◌++◌, ap, ap₂, ◌∙◌, subst, ℕ, ◌+◌, ◌<◌, drop, length}
use Rattle.ldap_eval.specs.Matched.{match_for}
use Rattle.ldap_eval.specs.declared.matching.MatchTest.{MatchTest}
use Rattle.ldap_eval.specs.Value.{is_looked_at}
use Rattle.ldap_eval.specs.Bound.{matches_from, matches_for}
use Rattle.ldap_eval.specs.declared.bound.BoundFilter.{BoundFilter}
use Rattle.ldap_eval.specs.declared.bound.BoundFilter.TheVariants as bound
use Rattle.ldap_eval.proofs.Matches.{match_more, match_skipped}
use Rattle.ldap_eval.proofs.binding.push_matches.Goals as goal
use Rattle.ldap_eval.proofs.binding.push_matches.Goals.{then-is_looked_at+in_ok-test+in_ok-push, else-is_looked_at}

pub loop-number-preserved : goal.loop-number-preserved
loop-number-preserved c =
    let s = c.args.schema.now in
    let h = c.args.item.now.how in
    let asked = c.args.item.now.asked_type.now in
    let a = c.args.item.now.assertion.now in
    let dn = c.args.in_name in
    let all = c.args.matches.now.items ++ matches_for s h asked a dn in
    let lt : c.loop-number.number < length s.types = subst (λ (n : ℕ). c.loop-number.number < n)
    c.count_of_types-number-end.ensures c.loop-number-test.true in
    elim c.if-is_looked_at.branch [
      | then-is_looked_at+in_ok-test+in_ok-push w ↦
          match_more s h asked a dn c.loop-number.number c.loop-number.matches.items c.if-is_looked_at.matches.items
          all _ lt
          (w.if-is_looked_at.ensures ∙ ap (is_looked_at s h asked) c.new-type_id.ensures)
          (ap₂ (λ (n : ℕ) (x : MatchTest). bound.Match (record { type_id = n; test = x; in_name = dn }))
          c.new-type_id.ensures (w.in_ok-test.ensures ∙ ap (match_for s h a) c.new-type_id.ensures))
          (ap (λ (v : Vec BoundFilter Global). v.items) w.matches-is ∙ w.in_ok-push.ensures.items)
          c.loop-number.invariant
      | else-is_looked_at w ↦
          ap (λ (v : Vec BoundFilter Global). v.items ++ matches_from s h asked a dn (drop (c.loop-number.number + 1)
          s.types) (c.loop-number.number + 1)) w.matches-is
          ∙ match_skipped s h asked a dn c.loop-number.number c.loop-number.matches.items all lt
          (w.if-is_looked_at.ensures ∙ ap (is_looked_at s h asked) c.new-type_id.ensures)
          c.loop-number.invariant
    ]
