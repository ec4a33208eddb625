-- What search doesn't prove of `tell`: `loop-string-preserved`, the clause `version` and the clause `damaged`, by
-- lemmas of `Finding` and `ToldOn`.
use Rattle.std.proofs.Common.{ap, ◌∙◌, arith, rules}
use Rattle.log_journal.specs.Told.{nothing_told}
use Rattle.log_journal.proofs.Finding.{damage_at, version_at}
use Rattle.log_journal.proofs.ToldOn.{more_tells}
use Rattle.log_journal.proofs.telling.tell.Goals as goal

pub loop-string-preserved : goal.loop-string-preserved
loop-string-preserved c = more_tells (λ v. v.items) c.args.strings.now c.loop-string.string-index c.string-item.result
    _ nothing_told _ _ (omega arith)
    (c.as_slice.ensures.value ∙ ap (λ v. v.items) c.string-item.is) c.loop-string.invariant
    c.in_ok-take_string.ensures.taken

pub returns-in_err-take_string-clause-version : goal.returns-in_err-take_string-clause-version
returns-in_err-take_string-clause-version c = λ is. version_at (λ v. v.items) c.args.strings.now
    c.loop-string.string-index c.string-item.result _ (omega arith)
    (c.as_slice.ensures.value ∙ ap (λ v. v.items) c.string-item.is) (c.in_err-take_string.ensures.version
    (search rules))

pub returns-in_err-take_string-clause-damaged : goal.returns-in_err-take_string-clause-damaged
returns-in_err-take_string-clause-damaged c = λ is. damage_at (λ v. v.items) c.args.strings.now
    c.loop-string.string-index c.string-item.result _ (omega arith)
    (c.as_slice.ensures.value ∙ ap (λ v. v.items) c.string-item.is) (c.in_err-take_string.ensures.damaged
    (search rules))
