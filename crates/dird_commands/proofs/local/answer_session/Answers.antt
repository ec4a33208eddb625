use Rattle.std.proofs.Common.{◌≡◌, ℕ, List, Bool, Option, Result, Ok, Err, refl, inl, ap, ap₂, ◌∙◌, subst}
use Rattle.std.specs.Prelude.{IfErr}
use Rattle.std.proofs.lemmas.Result.{IfOk-weaker}
use Rattle.std.specs.Arc.{arc_value}
use Rattle.std.specs.FinMap as map
use Rattle.local_directory.specs.indexed_tree.Directory.{Directory}
use Rattle.local_directory.specs.Local.{LocalValue}
use Rattle.local_directory.specs.Allows.{allows}
use Rattle.local_directory.specs.ldap_schema.Schema.{SchemaModel}
use Rattle.local_directory.specs.Answered.{Answers}
use Rattle.local_directory.specs.session_handler.Session.{ConfigValue}
use Rattle.dird_commands.specs.declared.fault.Fault.{Fault}
use Rattle.dird_commands.specs.Begun.{config_of, directory_at_first, local_at_first, AnswersFrom, IsCutFrom, FailsFrom}
use Rattle.dird_commands.proofs.Beginning.{answers_from}
use Rattle.dird_commands.proofs.local.answer_session.Goals as goal

pub returns-clause-ok : goal.returns-clause-ok
returns-clause-ok g c =
    let begun : Directory → ℕ → LocalValue = λ d n. record { directory = d; number = n; latest = map.empty } in
    IfOk-weaker c.answer_over.result
    (λ end. Answers allows (config_of c.deref.result.now) c.new-directory.result c.answer_over.new.directory
    (g.R.Read.remaining c.args.input.now) (g.R.Read.remaining c.answer_over.new.input)
    (g.W.Write.contents c.args.output.now) (g.W.Write.contents c.answer_over.new.output) end)
    (λ end. AnswersFrom (arc_value c.args.options.schema) c.args.options.sample
    (g.R.Read.remaining c.args.input.now) (g.R.Read.remaining c.answer_over.new.input)
    (g.W.Write.contents c.args.output.now) (g.W.Write.contents c.answer_over.new.output) end)
    (λ end h. answers_from (arc_value c.args.options.schema) c.args.options.sample (config_of c.deref.result.now)
    c.new-directory.result c.answer_over.new.directory
    (g.R.Read.remaining c.args.input.now) (g.R.Read.remaining c.answer_over.new.input)
    (g.W.Write.contents c.args.output.now) (g.W.Write.contents c.answer_over.new.output)
    end
    (ap config_of c.deref.ensures)
    (c.new-directory.ensures
    ∙ ap₂ begun (c.in_ok-store.ensures.directory
    ∙ ap (λ (s : SchemaModel). directory_at_first s c.args.options.sample) c.in_ok-shared.ensures)
    c.in_ok-store.ensures.number)
    h)
    c.answer_over.ensures.ok

-- the session did not begin
not_begun : {T : Type 0} (s : SchemaModel) (with_sample : Bool) (input output : Option (List ℕ))
    (r : Result T Fault) → IfErr r (λ fault. FailsFrom s with_sample input output output fault)
not_begun s with_sample input output (Ok x) = tt
not_begun s with_sample input output (Err fault) = (local_at_first s with_sample, inl refl)

pub returns-in_err-shared-clause-err : goal.returns-in_err-shared-clause-err
returns-in_err-shared-clause-err g c = not_begun (arc_value c.args.options.schema) c.args.options.sample _ _ _

pub returns-in_err-store-clause-err : goal.returns-in_err-store-clause-err
returns-in_err-store-clause-err g c = not_begun (arc_value c.args.options.schema) c.args.options.sample _ _ _

-- it began, and was cut short
cut : {T : Type 0} (s : SchemaModel) (with_sample : Bool) (c : ConfigValue) (d e : LocalValue) (input output grown :
    Option (List ℕ)) (r : Result T Fault) → c ≡ config_of s → d ≡ local_at_first s with_sample →
    IfErr r (λ fault. IsCutFrom c d e input output grown fault) →
    IfErr r (λ fault. FailsFrom s with_sample input output grown fault)
cut s with_sample c d e input output grown (Ok x) p q h = tt
cut s with_sample c d e input output grown (Err fault) p q h = (
  e,
  subst (λ (x : LocalValue). IsCutFrom (config_of s) x e input output grown fault) q (subst
      (λ (x : ConfigValue). IsCutFrom x d e input output grown fault) p h),
)

pub returns-clause-err : goal.returns-clause-err
returns-clause-err g c =
    let begun : Directory → ℕ → LocalValue = λ d n. record { directory = d; number = n; latest = map.empty } in
    cut (arc_value c.args.options.schema) c.args.options.sample (config_of c.deref.result.now) c.new-directory.result
    c.answer_over.new.directory
    (g.R.Read.remaining c.args.input.now) (g.W.Write.contents c.args.output.now)
    (g.W.Write.contents c.answer_over.new.output) c.answer_over.result
    (ap config_of c.deref.ensures)
    (c.new-directory.ensures
    ∙ ap₂ begun (c.in_ok-store.ensures.directory
    ∙ ap (λ (s : SchemaModel). directory_at_first s c.args.options.sample) c.in_ok-shared.ensures)
    c.in_ok-store.ensures.number)
    c.answer_over.ensures.err
