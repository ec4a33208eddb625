-- A session that begins as it is to begin.
use Rattle.std.proofs.Common.{◌≡◌, ℕ, List, Bool, Option, subst}
use Rattle.local_directory.specs.ldap_schema.Schema.{SchemaModel}
use Rattle.local_directory.specs.session_handler.Session.{ConfigValue}
use Rattle.local_directory.specs.Local.{LocalValue}
use Rattle.local_directory.specs.Allows.{allows}
use Rattle.local_directory.specs.ldap_session.declared.end.SessionEnd.{SessionEnd}
use Rattle.local_directory.specs.Answered.{Answers}
use Rattle.dird_commands.specs.Begun.{config_of, local_at_first, AnswersFrom}

-- a session that begins with this configuration and this directory
pub answers_from : (s : SchemaModel) (with_sample : Bool) (c : ConfigValue) (d e : LocalValue)
    (input left output grown : Option (List ℕ)) (end : SessionEnd) →
    c ≡ config_of s → d ≡ local_at_first s with_sample → Answers allows c d e input left output grown end →
    AnswersFrom s with_sample input left output grown end
answers_from s with_sample c d e input left output grown end p q h = (
  e,
  subst (λ (x : LocalValue). Answers allows (config_of s) x e input left output grown end) q (subst
      (λ (x : ConfigValue). Answers allows x d e input left output grown end) p h),
)
