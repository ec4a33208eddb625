-- What search doesn't prove of `marks_within`: `loop-key-preserved-in_ok-insert`, by lemmas of `Marking` and `Changed`.
use Rattle.std.proofs.Common.{◌≡◌, Bool, List, ◌∷◌, sym, ap, ◌∙◌}
use Rattle.std.specs.Prelude.{◌&&◌, ◌||◌}
use Rattle.std.specs.Map.Iter.{deref}
use Rattle.std.proofs.lemmas.Map.Iter.{rest_more}
use Rattle.dir_index.specs.declared.list_key.ListKey.{ListKey}
use Rattle.dir_index.specs.ListKeys.{key_of, is_same_list}
use Rattle.dir_index.specs.private.Marked.{has_posting, lists_entry}
use Rattle.dir_index.proofs.Marking.{marked_more}
use Rattle.dir_index.proofs.Changed.{listed_by, keep_step}
use Rattle.dir_index.proofs.membership.marks_within.Goals as goal

pub loop-key-preserved-in_ok-insert : goal.loop-key-preserved-in_ok-insert
loop-key-preserved-in_ok-insert c = λ p.
    let j : ListKey = c.in-Some.key.now in
    let lists : Bool = lists_entry c.args.indexes.now c.args.attributes.now p in
    let within : Bool = has_posting c.loop-key.within.keys p in
    let rest : c.loop-key.key-iterator ≡ j ∷ c.next.new.self = rest_more deref c.loop-key.key-iterator c.next.new.self
    c.next.result c.in-Some.key c.in-Some.is c.next.ensures.steps in
    ap (λ (b : Bool). (has_posting c.next.new.self p && lists) || b)
    (marked_more c.loop-key.within.keys c.insert.new.self.keys c.in_ok-share.field-0 c.in_ok-insert.ensures.updates.0
    (key_of p) ∙ ap (λ (k : ListKey). is_same_list k (key_of p) || within) c.in_ok-share.ensures)
    ∙ keep_step (is_same_list j (key_of p)) (has_posting c.next.new.self p) lists within
    (λ e. sym (listed_by c.args.indexes.now c.args.attributes.now j p e) ∙ sym c.is_listed.ensures
    ∙ c.if-is_listed.true)
    ∙ ap (λ (l : List ListKey). (has_posting l p && lists) || within) (sym rest)
    ∙ c.loop-key.invariant p
