use Rattle.std.proofs.Common.{ℕ, List, Option, Result, Ok, Err, refl, inl, inr, ap₂, subst}
use Rattle.std.specs.Prelude.{IfErr}
use Rattle.local_directory.specs.ldap_dn.Names.{RdnModel}
use Rattle.local_directory.specs.directory_api.Clients.{session_client}
use Rattle.local_directory.specs.Local.{LocalValue}
use Rattle.local_directory.specs.session_handler.Session.{ConfigValue}
use Rattle.local_directory.specs.Allows.{allows}
use Rattle.local_directory.specs.Answered.{Answers}
use Rattle.dird_commands.specs.declared.fault.Fault.{Fault}
use Rattle.dird_commands.specs.Begun.{IsCutFrom}
use Rattle.dird_commands.proofs.local.answer_over.Goals as goal

pub returns-in-Ok-clause-ok : goal.returns-in-Ok-clause-ok
returns-in-Ok-clause-ok g c =
    let config : List RdnModel → List ℕ → ConfigValue = λ manager password. record {
      schema = c.args.schema.now;
      manager = manager;
      password = password;
      client = session_client 0 0 1;
    } in
    subst
    (λ (x : ConfigValue). Answers allows x c.args.directory.now c.answer_lines.new.directory
    (g.R.Read.remaining c.args.input.now)
    (g.R.Read.remaining c.answer_lines.new.input) (g.W.Write.contents c.args.output.now)
    (g.W.Write.contents c.answer_lines.new.output) c.in-Ok.end)
    (ap₂ config c.in_ok-manager.ensures c.as_bytes.ensures.value)
    c.in-Ok.ensures.ok

-- the session did not begin
not_begun : {T : Type 0} (c : ConfigValue) (d : LocalValue) (input output : Option (List ℕ)) (r : Result T Fault) →
    IfErr r (λ fault. IsCutFrom c d d input output output fault)
not_begun c d input output (Ok x) = tt
not_begun c d input output (Err fault) = inl refl

pub returns-in_err-manager-clause-err : goal.returns-in_err-manager-clause-err
returns-in_err-manager-clause-err g c = not_begun _ _ _ _ _
