-- What search doesn't prove of `new`: the clause `refused` and the clause `in_syntax`, by lemmas of `Keyed`.
use Rattle.std.proofs.Common.{ℕ, Result, Err, Vec, Global, ◌≡◌, ap, sym, ◌∙◌}
use Rattle.std.proofs.lemmas.Result.{err_from_is_err_and}
use Rattle.std.specs.List.{list_all}
use Rattle.ldap_match.specs.Item.{is_of_syntax}
use Rattle.dir_entry.proofs.Keyed.{list_all-map}
use Rattle.dir_entry.proofs.attribute.Attribute.new.Goals as goal

same_error : {A B : Type 0} (r : Result A B) (x y : B) → r ≡ Err x → r ≡ Err y → x ≡ y
same_error r x y p q = cc

pub returns-then-not-branch-clause-refused : goal.returns-then-not-branch-clause-refused
returns-then-not-branch-clause-refused c = λ _.
    list_all-map (is_of_syntax c.args.schema.now c.args.type_id) (λ (v : Vec ℕ Global). v.items) c.args.values.items
    ∙ ap (list_all (λ (v : Vec ℕ Global). is_of_syntax c.args.schema.now c.args.type_id v.items))
    (sym c.as_slice.ensures.value)
    ∙ sym c.in_ok-are_of_syntax.ensures
    ∙ c.if-not-branch.true

pub returns-in_err-lists-clause-refused : goal.returns-in_err-lists-clause-refused
returns-in_err-lists-clause-refused c = λ e.
    let p = err_from_is_err_and c.from_residual-in_err-lists.result c.from_residual-in_err-lists.ensures.1 in
    c.in_err-lists.ensures.refused (ap Err (sym p.2 ∙ same_error c.from_residual-in_err-lists.result p.0 _ p.1 e))

pub returns-clause-in_syntax : goal.returns-clause-in_syntax
returns-clause-in_syntax c =
    list_all-map (is_of_syntax c.args.schema.now c.args.type_id) (λ (v : Vec ℕ Global). v.items) c.args.values.items
    ∙ ap (list_all (λ (v : Vec ℕ Global). is_of_syntax c.args.schema.now c.args.type_id v.items))
    (sym c.as_slice.ensures.value)
    ∙ sym c.in_ok-are_of_syntax.ensures
    ∙ c.if-not-branch.false
