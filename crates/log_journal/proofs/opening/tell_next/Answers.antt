-- What search doesn't prove of `tell_next`: the clause `told`, the clause `version` and the clause `damaged`, by lemmas
-- of `Finding`.
use Rattle.std.proofs.Common.{◌≡◌, List, ℕ, Err, refl, ap, subst}
use Rattle.journal.specs.Reading.{Advances}
use Rattle.log_journal.specs.private.Told.{TakesString}
use Rattle.log_journal.specs.Views.{told_view}
use Rattle.log_journal.specs.declared.error.NoteError.{NoteError}
use Rattle.log_journal.specs.declared.error.NoteError.TheVariants.{AnotherVersion, Damaged}
use Rattle.log_journal.proofs.Finding.{damage_ahead, version_ahead}
use Rattle.log_journal.proofs.opening.tell_next.Goals as goal

pub returns-in-Ok-take_string-clause-told : goal.returns-in-Ok-take_string-clause-told
returns-in-Ok-take_string-clause-told g c =
    let image = g.J.Device.seen c.args.device.now in
    let step = subst (λ b. Advances b c.args.reader.now c.advance.new.self image) c.if-more.true
    c.in-Ok.ensures.string in (
      step,
      subst (λ (s : List ℕ). TakesString s (told_view c.args.told.now)
          (told_view c.take_string.new.told)) c.string.ensures c.in-Ok-take_string.ensures.taken,
    )

pub returns-in-Err-take_string-clause-version : goal.returns-in-Err-take_string-clause-version
returns-in-Err-take_string-clause-version g c = λ is.
    let image = g.J.Device.seen c.args.device.now in
    let step = subst (λ b. Advances b c.args.reader.now c.advance.new.self image) c.if-more.true
    c.in-Ok.ensures.string in
    let same : c.in-Err-take_string.error ≡ AnotherVersion = cc is in
    version_ahead image c.args.reader.now c.advance.new.self c.string.result.now step c.string.ensures
    (c.in-Err-take_string.ensures.version (ap (λ (x : NoteError). Err x) same))

pub returns-in-Err-take_string-clause-damaged : goal.returns-in-Err-take_string-clause-damaged
returns-in-Err-take_string-clause-damaged g c = λ is.
    let image = g.J.Device.seen c.args.device.now in
    let step = subst (λ b. Advances b c.args.reader.now c.advance.new.self image) c.if-more.true
    c.in-Ok.ensures.string in
    let same : c.in-Err-take_string.error ≡ Damaged = cc is in
    damage_ahead image c.args.reader.now c.advance.new.self c.string.result.now step c.string.ensures
    (c.in-Err-take_string.ensures.damaged (ap (λ (x : NoteError). Err x) same))

pub returns-else-more-clause-told : goal.returns-else-more-clause-told
returns-else-more-clause-told g c =
    let image = g.J.Device.seen c.args.device.now in
    let step = subst (λ b. Advances b c.args.reader.now c.advance.new.self image) c.if-more.false
    c.in-Ok.ensures.string in
    (step, refl)
