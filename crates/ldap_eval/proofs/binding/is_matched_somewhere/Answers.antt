-- What search doesn't prove of `is_matched_somewhere`: `loop-number-preserved` and what it returns, by lemmas of
-- `Matches`.
use Rattle.std.proofs.Common.{ℕ, ◌<◌, ◌≤◌, ◌||◌, Bool, true, false, Some, Option, suc, length, drop, slice_get, ap, sym, subst, ◌∙◌, ◌≡◌, add-one, arith}
use Rattle.std.proofs.lemmas.List.{drop_all}
use Rattle.std.specs.List.{list_any}
use Rattle.dir_entry.specs.ldap_schema.Schema.{TypeModel}
use Rattle.dir_entry.specs.ldap_match.Item.{is_valid_by}
use Rattle.ldap_eval.specs.Matching.{supported_in}
use Rattle.ldap_eval.proofs.Matches.{some_type_step}
use Rattle.ldap_eval.proofs.binding.is_matched_somewhere.Goals as goal

pub loop-number-preserved : goal.loop-number-preserved
loop-number-preserved c =
    let s = c.args.schema.now in
    let p : Option TypeModel → Bool = λ (o : Option TypeModel). is_valid_by s (supported_in o c.args.rule.family)
    c.args.assertion.now in
    let lt : c.loop-number.number < length s.types = subst (λ (n : ℕ). c.loop-number.number < n)
    c.count_of_types-number-end.ensures c.loop-number-test.true in
    let no : p (slice_get s.types c.loop-number.number) ≡ false = ap (λ (n : ℕ). p (slice_get s.types n))
    (sym c.new-type_id.ensures) ∙ sym c.in_ok-is_matchable.ensures ∙ c.if-branch.false in
    ap (λ (k : ℕ). list_any (λ (t : TypeModel). p (Some t)) (drop k s.types)) (add-one c.loop-number.number)
    ∙ sym (some_type_step p s.types c.loop-number.number lt
    ∙ ap (λ (b : Bool). b || list_any (λ (t : TypeModel). p (Some t)) (drop (suc c.loop-number.number) s.types)) no)
    ∙ c.loop-number.invariant

pub returns : goal.returns
returns c =
    let s = c.args.schema.now in
    let p : Option TypeModel → Bool = λ (o : Option TypeModel). is_valid_by s (supported_in o c.args.rule.family)
    c.args.assertion.now in
    let past : length s.types ≤ c.loop-number.number =
    omega (arith, c.loop-number-test.false, c.count_of_types-number-end.ensures) in
    sym (ap (list_any (λ (t : TypeModel). p (Some t))) (drop_all c.loop-number.number s.types past))
    ∙ c.loop-number.invariant

pub returns-then-branch : goal.returns-then-branch
returns-then-branch c =
    let s = c.args.schema.now in
    let p : Option TypeModel → Bool = λ (o : Option TypeModel). is_valid_by s (supported_in o c.args.rule.family)
    c.args.assertion.now in
    let lt : c.loop-number.number < length s.types = subst (λ (n : ℕ). c.loop-number.number < n)
    c.count_of_types-number-end.ensures c.loop-number-test.true in
    let yes : p (slice_get s.types c.loop-number.number) ≡ true = ap (λ (n : ℕ). p (slice_get s.types n))
    (sym c.new-type_id.ensures) ∙ sym c.in_ok-is_matchable.ensures ∙ c.if-branch.true in
    sym (sym c.loop-number.invariant ∙ some_type_step p s.types c.loop-number.number lt
    ∙ ap (λ (b : Bool). b || list_any (λ (t : TypeModel). p (Some t)) (drop (suc c.loop-number.number) s.types))
    yes)
