-- What search doesn't prove of `push_rest`: `loop-key-init` and what it returns, by lemmas of `Marking` and `Ranged`.
use Rattle.std.proofs.Common.{◌≡◌, false, sym, ap, ◌∙◌, subst}
use Rattle.std.specs.Prelude.{◌||◌}
use Rattle.index_choice.specs.dir_entry.shared_map.Entries.{Rises, IsAhead}
use Rattle.dir_index.specs.declared.list_key.ListKey.{ListKey}
use Rattle.dir_index.specs.Postings.{has_number}
use Rattle.dir_index.specs.ListKeys.{list_order}
use Rattle.dir_index.specs.private.ListKeys.{range_start}
use Rattle.dir_index.specs.Places.{key_at}
use Rattle.dir_index.specs.Stored.{ListRows}
use Rattle.dir_index.specs.private.Stored.{has_in_lists}
use Rattle.dir_index.proofs.Marking.{or_off}
use Rattle.dir_index.proofs.Ranged.{rises_after, ahead_after, no_more}
use Rattle.dir_index.proofs.ranges.push_rest.Goals as goal

pub loop-key-init : goal.loop-key-init
loop-key-init c = record {
  rising = subst (Rises list_order) (sym c.after-walk.ensures) (rises_after list_order (key_at c.args.start.now)
      c.args.lists.now c.rises.ensures);
  behind = subst (IsAhead list_order (key_at c.args.start.now)) (sym c.after-walk.ensures)
      (ahead_after list_order (key_at c.args.start.now) c.args.lists.now);
  has = λ n. ap (λ (w : ListRows). has_number n c.args.into.now.items || has_in_lists c.args.range.now n w)
      c.after-walk.ensures;
}

pub returns-then-not-is_list_in : goal.returns-then-not-is_list_in
returns-then-not-is_list_in c = λ n.
    let ahead : IsAhead list_order (range_start c.args.range.now) c.loop-key.walk =
    subst (λ (k : ListKey). IsAhead list_order k c.loop-key.walk) c.requires c.loop-key.invariant.behind in
    let none : has_in_lists c.args.range.now n c.loop-key.walk ≡ false =
    ap (has_in_lists c.args.range.now n) c.in-Some.ensures
    ∙ no_more c.args.range.now n c.in-Some.key.now c.in-Some.numbers.now _
    (subst (IsAhead list_order (range_start c.args.range.now)) c.in-Some.ensures ahead)
    (subst (Rises list_order) c.in-Some.ensures c.loop-key.invariant.rising)
    (sym c.is_list_in.ensures ∙ c.if-not-is_list_in.true) in
    sym (or_off (has_number n c.loop-key.into.items)) ∙ ap (λ b. has_number n c.loop-key.into.items || b) (sym none)
    ∙ c.loop-key.invariant.has n
