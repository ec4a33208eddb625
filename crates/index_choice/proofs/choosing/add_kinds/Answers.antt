-- What search doesn't prove of `add_kinds`: the clause `ok`, by lemmas of `Settings`.
use Rattle.std.proofs.Common.{◌≡◌, ℕ, ◌<◌, length, List, cond, nat_eq, sym, ap, ◌∙◌}
use Rattle.index_choice.specs.declared.kinds.Kinds.{Kinds}
use Rattle.index_choice.specs.Choice.{kinds_of}
use Rattle.index_choice.specs.private.Texts.{joined}
use Rattle.index_choice.proofs.Settings.{kinds_here, kinds_set, at_type}
use Rattle.index_choice.proofs.choosing.add_kinds.Goals as goal

pub returns-clause-ok : goal.returns-clause-ok
returns-clause-ok c =
    let ks : List Kinds = c.reach.new.kinds.items in
    let old : List Kinds = c.args.kinds.now.items in
    let n : ℕ = c.number-number.result in
    let l : n < length ks = c.in_ok-reach.ensures.reached in
    let here : c.joined.result ≡ joined (kinds_of ks n) c.args.more = c.joined.ensures
    ∙ ap (λ (k : Kinds). joined k c.args.more)
    (sym (kinds_here ks n c.index-now.result.now l c.index-now.ensures)) in
    λ t. kinds_set ks n t c.joined.result l
    ∙ ap (λ (k : Kinds). cond (nat_eq n t) k (kinds_of ks t)) here
    ∙ at_type n t (λ (u : ℕ). joined (kinds_of ks u) c.args.more) (kinds_of ks t)
    ∙ ap (λ (k : Kinds). cond (nat_eq n t) (joined k c.args.more) k) (c.in_ok-reach.ensures.same t)
    ∙ ap (λ (u : ℕ). cond (nat_eq u t) (joined (kinds_of old t) c.args.more) (kinds_of old t)) c.number-number.ensures
