-- What search doesn't prove of `lists_of`: the clause `refused` and the clause `forms`, by lemmas of `Keyed`.
use Rattle.std.proofs.Common.{ℕ, Result, Err, Vec, Global, ◌≡◌, ap, map, sym, ◌∙◌}
use Rattle.std.proofs.lemmas.Result.{err_from_is_err_and}
use Rattle.std.specs.List.{list_all}
use Rattle.ldap_match.specs.Item.{is_of_syntax}
use Rattle.ldap_match.specs.ldap_syntax.Forms.{form_of}
use Rattle.dir_entry.proofs.Keyed.{list_all-map, map-map}
use Rattle.dir_entry.proofs.attribute.lists_of.Goals as goal

same_error : {A B : Type 0} (r : Result A B) (x y : B) → r ≡ Err x → r ≡ Err y → x ≡ y
same_error r x y p q = cc

pub returns-in_err-keys-clause-refused : goal.returns-in_err-keys-clause-refused
returns-in_err-keys-clause-refused c = λ e.
    let p = err_from_is_err_and c.from_residual.result c.from_residual.ensures.1 in
    list_all-map (is_of_syntax c.args.schema.now c.args.type_id) (λ (v : Vec ℕ Global). v.items) c.args.values.items
    ∙ ap (list_all (λ (v : Vec ℕ Global). is_of_syntax c.args.schema.now c.args.type_id v.items))
    (sym c.as_slice.ensures.value)
    ∙ c.in_err-keys.ensures.refused (ap Err (sym p.2 ∙ same_error c.from_residual.result p.0 _ p.1 e))

pub returns-clause-forms : goal.returns-clause-forms
returns-clause-forms c =
    c.in_ok-forms.ensures
    ∙ ap (map (λ (v : Vec ℕ Global). form_of v.items)) c.as_slice-2.ensures.value
    ∙ sym (map-map form_of (λ (v : Vec ℕ Global). v.items) c.args.values.items)
    ∙ ap (map form_of) (sym c.in_ok-values.ensures)
