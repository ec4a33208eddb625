-- What search doesn't prove of `push_range`: what it returns, by lemmas of `Marking` and `Ranged`.
use Rattle.std.proofs.Common.{◌≡◌, Bool, true, false, not, List, sym, ap, ◌∙◌, subst}
use Rattle.std.specs.Prelude.{◌||◌}
use Rattle.index_choice.specs.dir_entry.shared_map.Entries.{Rises}
use Rattle.index_choice.specs.declared.kinds.Kinds.{Kinds}
use Rattle.index_choice.specs.Choice.{kinds_of}
use Rattle.dir_index.specs.Postings.{has_number}
use Rattle.dir_index.specs.ListKeys.{list_order}
use Rattle.dir_index.specs.private.Stored.{has_in_lists}
use Rattle.dir_index.proofs.Marking.{or_off}
use Rattle.dir_index.proofs.Ranged.{range_numbers, no_range}
use Rattle.dir_index.proofs.postings.Postings.push_range.Goals as goal

turned : (b d : Bool) → not b ≡ d → b ≡ not d
turned true d h = ap not h
turned false d h = ap not h

pub returns-then-not-kinds : goal.returns-then-not-kinds
returns-then-not-kinds c = λ es held n.
    let off : (kinds_of c.args.self.now.indexes c.args.range.now.type_id).ordering ≡ false =
    ap (λ (ix : List Kinds). (kinds_of ix c.args.range.now.type_id).ordering) (sym c.indexes.ensures)
    ∙ ap (λ (k : Kinds). k.ordering) (sym c.kinds.ensures) ∙ turned c.kinds.result.ordering true
    c.if-not-kinds.true in
    sym (or_off (has_number n c.args.into.now.items)) ∙ ap (λ b. has_number n c.args.into.now.items || b)
    (sym (no_range c.args.self.now es c.args.range.now n off))

pub returns : goal.returns
returns c = λ es held n.
    let on : (kinds_of c.args.self.now.indexes c.args.range.now.type_id).ordering ≡ true =
    ap (λ (ix : List Kinds). (kinds_of ix c.args.range.now.type_id).ordering) (sym c.indexes.ensures)
    ∙ ap (λ (k : Kinds). k.ordering) (sym c.kinds.ensures) ∙ turned c.kinds.result.ordering false
    c.if-not-kinds.false in
    let lists = ap (λ m. m.lists) c.self.view_is in
    c.in_ok-push_lists.ensures n
    ∙ ap (λ b. has_number n c.args.into.now.items || b)
    (ap (has_in_lists c.args.range.now n) lists ∙ range_numbers c.args.self.now es c.args.range.now n
    (subst (Rises list_order) lists c.rises.ensures) held on)
