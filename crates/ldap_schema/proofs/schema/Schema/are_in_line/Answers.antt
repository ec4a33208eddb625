-- What search doesn't prove of `are_in_line`: what it returns, step by step.
use Rattle.std.proofs.Common.{List, ap, ◌∙◌}
use Rattle.std.proofs.lemmas.Result.{IfOk-weaker}
use Rattle.ldap_schema.specs.Schema.{SchemaModel, ClassModel}
use Rattle.ldap_schema.specs.Superclasses.{is_subclass}
use Rattle.ldap_schema.specs.Lines.{are_all_in_line}
use Rattle.ldap_schema.specs.private.Lines.{is_under_in}
use Rattle.ldap_schema.proofs.schema.Schema.are_in_line.Goals as goal

pub returns-then-self : goal.returns-then-self
returns-then-self c =
    IfOk-weaker c.are_ranked_in_line.result _ _
    (λ r e. e ∙ ap (λ (x : List ClassModel). are_all_in_line (is_under_in x) c.args.classes.now)
    c.as_slice.ensures.value ∙ ap (λ (s : SchemaModel). are_all_in_line (is_subclass s) c.args.classes.now)
    c.self.view_is)
    c.are_ranked_in_line.ensures

pub returns : goal.returns
returns c =
    IfOk-weaker c.is_each_in_line.result _ _
    (λ r e. e ∙ ap (λ (x : List ClassModel). are_all_in_line (is_under_in x) c.args.classes.now)
    c.as_slice-2.ensures.value ∙ ap (λ (s : SchemaModel). are_all_in_line (is_subclass s) c.args.classes.now)
    c.self.view_is)
    c.is_each_in_line.ensures
