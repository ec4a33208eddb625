use Rattle.std.proofs.Common.{◌∙◌, sym, ap, subst}
use Rattle.std.specs.Prelude.{IfOk}
use Rattle.std.proofs.lemmas.Result.{IfOk-weaker}
use Rattle.indexed_tree.specs.ldap_schema.Schema.{SchemaModel}
use Rattle.indexed_tree.specs.directory_api.ldap_msg.View.{search_view}
use Rattle.indexed_tree.specs.Directory.{Directory}
use Rattle.indexed_tree.specs.Stored.{directory}
use Rattle.dir_search.specs.Counted.{IsCountAtBase}
use Rattle.dir_search.specs.Evaluated.{IsFewAtBase}
use Rattle.dir_search.proofs.Answered.{not_root, not_standing, count_root, count_over, count_none}
use Rattle.dir_search.proofs.searching.search_at.Goals as goal

-- the root DSE is no entry
pub returns-then-asks_for_root-clause-few : goal.returns-then-asks_for_root-clause-few
returns-then-asks_for_root-clause-few c =
    IfOk-weaker c.show_root.result _ _
    (λ a h over. absurd (not_root _ _ _ (sym c.asks_for_root.ensures ∙ c.if-asks_for_root.true) over))
    c.show_root.ensures.counted

pub returns-then-is_standing-clause-few : goal.returns-then-is_standing-clause-few
returns-then-is_standing-clause-few c =
    let same = ap (λ (s : SchemaModel). directory s c.indexed.result.now.tree) c.schema.ensures
    ∙ c.indexed.ensures.shown in
    let few = rw c.indexed.ensures.indexes at c.search_scope.ensures.few in
    IfOk-weaker c.search_scope.result _ _ (λ a h over. h)
    (subst (λ (d : Directory). IfOk c.search_scope.result (λ a. IsFewAtBase c.args.store.now.indexes d
    (search_view c.args.request.now) c.args.base.now a.tests)) same few)

-- a base without an entry
pub returns-clause-few : goal.returns-clause-few
returns-clause-few c = λ h. absurd (not_standing _ _ _ (sym c.is_standing.ensures ∙ c.if-is_standing.false) h)

pub returns-then-asks_for_root-clause-counted : goal.returns-then-asks_for_root-clause-counted
returns-then-asks_for_root-clause-counted c =
    IfOk-weaker c.show_root.result _ _ (λ a h. count_root c.args.store.now (search_view c.args.request.now)
    c.args.base.now a.tests (sym c.asks_for_root.ensures ∙ c.if-asks_for_root.true) h)
    c.show_root.ensures.counted

pub returns-then-is_standing-clause-counted : goal.returns-then-is_standing-clause-counted
returns-then-is_standing-clause-counted c =
    let same = ap (λ (s : SchemaModel). directory s c.indexed.result.now.tree) c.schema.ensures
    ∙ c.indexed.ensures.shown in
    let counted = rw c.indexed.ensures.indexes at c.search_scope.ensures.counted in
    IfOk-weaker c.search_scope.result _ _ (λ a h. count_over c.args.store.now (search_view c.args.request.now)
    c.args.base.now a.tests (sym c.asks_for_root.ensures ∙ c.if-asks_for_root.false) h)
    (subst (λ (d : Directory). IfOk c.search_scope.result (λ a. IsCountAtBase c.args.store.now.indexes d
    (search_view c.args.request.now) c.args.base.now a.tests)) same counted)

pub returns-clause-counted : goal.returns-clause-counted
returns-clause-counted c =
    count_none c.args.store.now (search_view c.args.request.now) c.args.base.now _ (sym c.asks_for_root.ensures
    ∙ c.if-asks_for_root.false) (sym c.is_standing.ensures ∙ c.if-is_standing.false)
