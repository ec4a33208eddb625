-- What search doesn't prove of `changed_to`: the clause `ok`, by lemmas of `Listed`.
use Rattle.std.proofs.Common.{List, sym, subst}
use Rattle.index_choice.specs.dir_entry.Entry.{KeyedAttribute}
use Rattle.dir_index.specs.Whole.{PostingsModel, AreOf, HasEntry, with_attributes}
use Rattle.dir_index.proofs.Listed.{all_rise, replaced_lists}
use Rattle.dir_index.proofs.postings.Postings.changed_to.Goals as goal

pub returns-clause-ok : goal.returns-clause-ok
returns-clause-ok c = λ es held there.
    let m : PostingsModel = record { indexes = c.self.inside.choice; lists = c.self.inside.lists } in
    let of : AreOf m es = subst (λ (x : PostingsModel). AreOf x es) (sym c.self.view_is) held in
    let rise = all_rise m es of in
    subst (λ (a : List KeyedAttribute). AreOf (record { indexes = m.indexes; lists = c.in_ok-lists.lists })
    (with_attributes c.args.number a es)) c.attributes-2.ensures
    (replaced_lists m.indexes m.lists c.in_ok-lists.lists c.args.number c.attributes.result.now
    c.attributes-2.result.now es
    (record { rising = c.in_ok-lists.ensures.rising rise; has = c.in_ok-lists.ensures.has rise }) of
    (subst (λ (a : List KeyedAttribute). HasEntry es c.args.number a) (sym c.attributes.ensures) there))
