-- What search doesn't prove of `text_of`: what it returns, step by step.
use Rattle.std.proofs.Common.{Bool, true, false, ◌≡◌, refl, ap}
use Rattle.std.proofs.lemmas.Str.{is_utf8-from_IsUtf8, IsUtf8-from_is_utf8}
use Rattle.std.specs.Str.{is_utf8}
use Rattle.std.specs.Prelude.{Some}
use Rattle.ldap_syntax.proofs.admitting.text_of.Goals as goal

not_true : (b : Bool) → (b ≡ true → ⊥) → b ≡ false
not_true true h = absurd (h refl)
not_true false h = refl

pub returns-in-Ok : goal.returns-in-Ok
returns-in-Ok c = rw (is_utf8-from_IsUtf8 c.args.octets.now c.in-Ok.ensures.cases.1) (ap Some c.in-Ok.ensures.cases.0)

pub returns-in-Err : goal.returns-in-Err
returns-in-Err c = rw (not_true (is_utf8 c.args.octets.now) (λ e. c.in-Err.ensures.cases.0
    (IsUtf8-from_is_utf8 c.args.octets.now e))) refl
