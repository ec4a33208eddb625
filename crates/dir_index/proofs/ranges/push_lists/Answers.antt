-- What search doesn't prove of `push_lists`: what it returns, by lemmas of `Marking` and `Ranged`.
use Rattle.std.proofs.Common.{◌≡◌, ap, ◌∙◌, subst, sym}
use Rattle.std.specs.Prelude.{◌||◌, ◌&&◌}
use Rattle.index_choice.specs.dir_entry.shared_map.Runs.{entries_after}
use Rattle.dir_index.specs.declared.list_key.ListKey.{ListKey}
use Rattle.dir_index.specs.Postings.{has_number, in_range}
use Rattle.dir_index.specs.ListKeys.{list_order}
use Rattle.dir_index.specs.Places.{key_at}
use Rattle.dir_index.specs.Stored.{list_at}
use Rattle.dir_index.specs.private.Stored.{has_in_lists}
use Rattle.dir_index.proofs.Marking.{or_assoc}
use Rattle.dir_index.proofs.Ranged.{from_start}
use Rattle.dir_index.proofs.ranges.push_lists.Goals as goal

pub returns : goal.returns
returns c = λ n.
    let r = c.args.range.now in
    let s : ListKey = key_at c.start_of-start.result in
    c.in_ok-push_rest.ensures n
    ∙ ap (λ b. b || has_in_lists r n (entries_after (list_order s) c.args.lists.now)) (c.in_ok-push_first.ensures n)
    ∙ or_assoc (has_number n c.args.into.now.items) (in_range r s.octets && has_number n (list_at c.args.lists.now s))
    (has_in_lists r n (entries_after (list_order s) c.args.lists.now))
    ∙ ap (λ b. has_number n c.args.into.now.items || b)
    (subst (λ (k : ListKey). ((in_range r k.octets && has_number n (list_at c.args.lists.now k)) || has_in_lists r n
    (entries_after (list_order k) c.args.lists.now)) ≡ has_in_lists r n c.args.lists.now)
    (sym c.start_of-start.ensures)
    (from_start r n c.args.lists.now c.rises.ensures))
