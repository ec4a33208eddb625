-- What search doesn't prove of `leaves`: `loop-number-preserved`, by lemmas of `Items`.
use Rattle.std.proofs.Common.{Vec, Global, ◌++◌, ap, ap₂, ◌∙◌, subst, ℕ, ◌+◌, ◌<◌, drop, length}
use Rattle.dir_entry.specs.ldap_schema.Schema.{is_under}
use Rattle.dir_entry.specs.ldap_match.Keyed.{test_for}
use Rattle.dir_entry.specs.ldap_match.declared.testing.Test.{Test}
use Rattle.ldap_eval.specs.private.Asked.{item_of}
use Rattle.ldap_eval.specs.Bound.{leaves_from}
use Rattle.ldap_eval.specs.declared.bound.BoundFilter.{BoundFilter}
use Rattle.ldap_eval.specs.declared.bound.BoundFilter.TheVariants as bound
use Rattle.ldap_eval.proofs.Items.{leaf_more, leaf_skipped}
use Rattle.ldap_eval.proofs.binding.leaves.Goals as goal
use Rattle.ldap_eval.proofs.binding.leaves.Goals.{then-is_under+in_ok-test+in_ok-push, else-is_under}

pub loop-number-preserved : goal.loop-number-preserved
loop-number-preserved c =
    let s = c.args.schema.now in
    let item = item_of c.args.asked in
    let lt : c.loop-number.number < length s.types = subst (λ (n : ℕ). c.loop-number.number < n)
    c.count_of_types-number-end.ensures c.loop-number-test.true in
    elim c.if-is_under.branch [
      | then-is_under+in_ok-test+in_ok-push w ↦
          leaf_more s item c.args.type_id c.loop-number.number c.loop-number.leaves.items c.if-is_under.leaves.items _
          _ lt
          (w.if-is_under.ensures.table ∙ ap (λ (n : ℕ). is_under s n c.args.type_id) c.new-below.ensures)
          (ap₂ (λ (n : ℕ) (x : Test). bound.Leaf (record { type_id = n; test = x })) c.new-below.ensures
          (w.in_ok-test.ensures ∙ ap (test_for s item) c.new-below.ensures))
          (ap (λ (v : Vec BoundFilter Global). v.items) w.leaves-is ∙ w.in_ok-push.ensures.items)
          c.loop-number.invariant
      | else-is_under w ↦
          ap (λ (v : Vec BoundFilter Global). v.items ++ leaves_from s item c.args.type_id
          (drop (c.loop-number.number + 1) s.types) (c.loop-number.number + 1)) w.leaves-is
          ∙ leaf_skipped s item c.args.type_id c.loop-number.number c.loop-number.leaves.items _ lt
          (w.if-is_under.ensures.table ∙ ap (λ (n : ℕ). is_under s n c.args.type_id) c.new-below.ensures)
          c.loop-number.invariant
    ]
