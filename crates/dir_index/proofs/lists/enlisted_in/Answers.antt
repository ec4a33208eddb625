-- What search doesn't prove of `enlisted_in`: `loop-key-preserved-then-not-contains` and `loop-key-preserved`, by
-- lemmas of `Keys`, `Marking` and `Numbers`.
use Rattle.std.proofs.Common.{◌≡◌, true, false, not, List, ◌∷◌, nat_eq, sym, ap, ◌∙◌}
use Rattle.std.specs.Prelude.{◌||◌, ◌&&◌}
use Rattle.std.specs.Map.Iter.{deref}
use Rattle.std.proofs.lemmas.Map.Iter.{rest_more}
use Rattle.dir_index.specs.declared.list_key.ListKey.{ListKey}
use Rattle.dir_index.specs.ListKeys.{key_of, is_same_list}
use Rattle.dir_index.specs.private.Marked.{is_marked, has_posting}
use Rattle.dir_index.specs.private.Stored.{is_in}
use Rattle.dir_index.proofs.Keys.{one_list}
use Rattle.dir_index.proofs.Marking.{marked_at}
use Rattle.dir_index.proofs.Numbers.{enlisted_has, enlist_step, skip_step}
use Rattle.dir_index.proofs.lists.enlisted_in.Goals as goal

pub loop-key-preserved-then-not-contains : goal.loop-key-preserved-then-not-contains
loop-key-preserved-then-not-contains c =
    let j : ListKey = c.in-Some.key.now in
    let others : List ListKey = c.args.others.now.keys in
    let rest : c.loop-key.key-iterator ≡ j ∷ c.next.new.self = rest_more deref c.loop-key.key-iterator c.next.new.self
    c.next.result c.in-Some.key c.in-Some.is c.next.ensures.steps in
    let none : is_marked others j ≡ false = marked_at others j ∙ cc (c.contains.ensures, c.if-not-contains.true) in
    record {
      has = λ p n.
          ap (λ i. (nat_eq n c.args.number && (has_posting c.next.new.self p && not (has_posting others p))) || i)
          (enlisted_has c.loop-key.now c.in_ok-now.now j c.args.number c.in_ok-now.ensures.is (key_of p) n)
          ∙ enlist_step (nat_eq n c.args.number) (is_same_list j (key_of p)) (has_posting c.next.new.self p)
          (has_posting others p) (is_in c.loop-key.now (key_of p) n)
          (λ e. ap (is_marked others) (sym (one_list j (key_of p) e)) ∙ none)
          ∙ ap (λ (l : List ListKey). (nat_eq n c.args.number && (has_posting l p && not (has_posting others p))) ||
          is_in c.loop-key.now (key_of p) n) (sym rest)
          ∙ c.loop-key.invariant.has p n;
      rising = λ old. c.in_ok-now.ensures.rising (c.loop-key.invariant.rising old);
    }

pub loop-key-preserved : goal.loop-key-preserved
loop-key-preserved c =
    let j : ListKey = c.in-Some.key.now in
    let others : List ListKey = c.args.others.now.keys in
    let rest : c.loop-key.key-iterator ≡ j ∷ c.next.new.self = rest_more deref c.loop-key.key-iterator c.next.new.self
    c.next.result c.in-Some.key c.in-Some.is c.next.ensures.steps in
    let some : is_marked others j ≡ true = marked_at others j ∙ cc (c.contains.ensures, c.if-not-contains.false) in
    record {
      has = λ p n.
          ap (λ b. b || is_in c.loop-key.now (key_of p) n)
          (skip_step (nat_eq n c.args.number) (is_same_list j (key_of p)) (has_posting c.next.new.self p)
          (has_posting others p) (λ e. ap (is_marked others) (sym (one_list j (key_of p) e)) ∙ some))
          ∙ ap (λ (l : List ListKey). (nat_eq n c.args.number && (has_posting l p && not (has_posting others p))) ||
          is_in c.loop-key.now (key_of p) n) (sym rest)
          ∙ c.loop-key.invariant.has p n;
      rising = c.loop-key.invariant.rising;
    }
