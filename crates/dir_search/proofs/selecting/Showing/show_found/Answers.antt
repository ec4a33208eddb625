-- What search doesn't prove of `show_found`: `loop-number-init`, `loop-number-preserved` and what it returns, by lemmas
-- of `Limits` and `Shown`.
use Rattle.std.proofs.Common.{◌∙◌, refl, sym, ap, subst, List, ℕ, length, map, string_bytes}
use Rattle.std.proofs.lemmas.List.{length-map}
use Rattle.indexed_tree.specs.directory_api.ldap_msg.Messages.{SearchResultEntryValue}
use Rattle.indexed_tree.specs.directory_api.FoundView.{found_view}
use Rattle.indexed_tree.specs.Directory.{NamedEntry}
use Rattle.indexed_tree.specs.directory_api.declared.found.FoundEntry.{FoundEntry}
use Rattle.dir_search.specs.Selection.{selected}
use Rattle.dir_search.proofs.Limits.{SoFar, begins, shows}
use Rattle.dir_search.proofs.Shown.{cut_short, all_shown}
use Rattle.dir_search.proofs.selecting.Showing.show_found.Goals as goal

pub loop-number-init : goal.loop-number-init
loop-number-init c =
    let show : NamedEntry → SearchResultEntryValue = selected c.args.self.now.schema.now
    (map string_bytes c.args.self.now.request.now.attributes.items) c.args.self.now.request.now.types_only in
    let all = c.args.running.to_come in
    record {
      so_far = subst (λ (l : List FoundEntry). SoFar show c.args.tree.now.entries
          c.args.self.now.request.now.size_limit all all (map found_view l)) (sym c.new-entries.ensures.items)
          (begins show c.args.tree.now.entries c.args.self.now.request.now.size_limit all c.requires);
      same = refl;
      read = c.new-reader.ensures;
    }

pub loop-number-preserved : goal.loop-number-preserved
loop-number-preserved c =
    let show : NamedEntry → SearchResultEntryValue = selected c.args.self.now.schema.now
    (map string_bytes c.args.self.now.request.now.attributes.items) c.args.self.now.request.now.types_only in
    let all = c.args.running.to_come in
    let shown = map found_view c.loop-number.entries.items in
    let here = subst (λ (l : List ℕ). SoFar show c.args.tree.now.entries c.args.self.now.request.now.size_limit all l
    shown) c.in-Some.ensures.gives c.loop-number.invariant.so_far in
    let next = rw c.loop-number.invariant.read at c.in_ok-show_next.ensures.shown in
    record {
      so_far = shows show c.args.tree.now.entries c.args.self.now.request.now.size_limit all c.next.new.self.to_come
          shown c.in-Some.number here (map found_view c.show_next.new.entries.items) next
          (λ pos e. c.if-is_full.ensures.more pos (ap length c.as_slice.ensures.value
          ∙ sym (length-map c.loop-number.entries.items found_view) ∙ e));
      same = c.next.ensures.same ∙ c.loop-number.invariant.same;
      read = c.show_next.ensures.same ∙ c.loop-number.invariant.read;
    }

pub returns-then-is_full : goal.returns-then-is_full
returns-then-is_full c =
    let show : NamedEntry → SearchResultEntryValue = selected c.args.self.now.schema.now
    (map string_bytes c.args.self.now.request.now.attributes.items) c.args.self.now.request.now.types_only in
    let all = c.args.running.to_come in
    let shown = map found_view c.loop-number.entries.items in
    let here = subst (λ (l : List ℕ). SoFar show c.args.tree.now.entries c.args.self.now.request.now.size_limit all l
    shown) c.in-Some.ensures.gives c.loop-number.invariant.so_far in
    let full = c.if-is_full.ensures.full in
    cut_short c.ended.result show c.args.self.now.request.now.size_limit c.args.tree.now.entries all shown
    c.next.new.self.tests c.args.running.open_numbers c.next.new.self.open_numbers
    c.in-Some.number c.next.new.self.to_come here full.0 (length-map c.loop-number.entries.items found_view
    ∙ sym (ap length c.as_slice.ensures.value) ∙ full.1)
    c.ended.ensures.shown (c.ended.ensures.tests ∙ c.tests.ensures) (c.next.ensures.same
    ∙ c.loop-number.invariant.same) c.in-Some.ensures.asked

pub returns : goal.returns
returns c =
    let show : NamedEntry → SearchResultEntryValue = selected c.args.self.now.schema.now
    (map string_bytes c.args.self.now.request.now.attributes.items) c.args.self.now.request.now.types_only in
    let all = c.args.running.to_come in
    let shown = map found_view c.loop-number.entries.items in
    let here = subst (λ (l : List ℕ). SoFar show c.args.tree.now.entries c.args.self.now.request.now.size_limit all l
    shown) c.in_default.ensures.gives.0 c.loop-number.invariant.so_far in
    all_shown c.ended-2.result show c.args.self.now.request.now.size_limit c.args.tree.now.entries all shown
    c.next.new.self.tests c.args.running.open_numbers c.next.new.self.open_numbers
    here c.ended-2.ensures.shown (c.ended-2.ensures.tests ∙ c.tests-2.ensures) (c.next.ensures.same
    ∙ c.loop-number.invariant.same) c.in_default.ensures.asked
