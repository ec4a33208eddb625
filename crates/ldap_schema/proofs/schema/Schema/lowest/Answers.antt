-- What search doesn't prove of `lowest`: what it returns, step by step.
use Rattle.std.proofs.Common.{List, ap, ◌∙◌}
use Rattle.std.proofs.lemmas.Result.{IfOk-weaker}
use Rattle.ldap_schema.specs.Schema.{SchemaModel, ClassModel}
use Rattle.ldap_schema.specs.Superclasses.{is_subclass}
use Rattle.ldap_schema.specs.Lines.{lowest_in}
use Rattle.ldap_schema.specs.private.Lines.{is_under_in}
use Rattle.ldap_schema.proofs.schema.Schema.lowest.Goals as goal

pub returns-then-self : goal.returns-then-self
returns-then-self c =
    IfOk-weaker c.lowest_ranked.result _ _
    (λ r e. e ∙ ap (λ (x : List ClassModel). lowest_in (is_under_in x) c.args.classes.now c.args.classes.now)
    c.as_slice.ensures.value ∙ ap (λ (s : SchemaModel). lowest_in (is_subclass s) c.args.classes.now
    c.args.classes.now) c.self.view_is)
    c.lowest_ranked.ensures

pub returns : goal.returns
returns c =
    IfOk-weaker c.lowest_among.result _ _
    (λ r e. e ∙ ap (λ (x : List ClassModel). lowest_in (is_under_in x) c.args.classes.now c.args.classes.now)
    c.as_slice-2.ensures.value ∙ ap (λ (s : SchemaModel). lowest_in (is_subclass s) c.args.classes.now
    c.args.classes.now) c.self.view_is)
    c.lowest_among.ensures
