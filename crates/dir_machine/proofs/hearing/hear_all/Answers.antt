-- What search doesn't prove of `hear_all`: `loop-frame-preserved`, by a lemma of `Gathered`.
use Rattle.std.proofs.Common.{◌≡◌, ℕ, suc, ◌+◌, List, [], ◌∷◌, ◌++◌, take, Vec, sym, ap, ◌∙◌, subst, arith}
use Rattle.std.proofs.Math.Seq.{take-suc}
use Rattle.std.specs.Global.{Global}
use Rattle.dir_machine.proofs.Gathered.{heard_more}
use Rattle.dir_machine.specs.private.Hearing.{HearsOne}
use Rattle.dir_machine.proofs.hearing.hear_all.Goals as goal

pub loop-frame-preserved : goal.loop-frame-preserved
loop-frame-preserved c =
    let at = c.loop-frame.frame-index in
    let all = c.args.frames.now in
    let next : at + 1 ≡ suc at = omega arith in
    heard_more c.args.cluster c.args.gathering.now c.loop-frame.gathering c.hear.new.gathering (take at all)
    (take (at + 1) all) c.frame-item.result c.loop-frame.last c.in_ok-last.last
    (ap (λ (k : ℕ). take k all) next ∙ take-suc all at c.frame-item.result c.loop-frame-test.true
    ∙ ap (λ (v : Vec ℕ Global). take at all ++ v ∷ []) (sym c.frame-item.is)) c.loop-frame.invariant
    (subst (λ (f : List ℕ). HearsOne c.args.cluster c.loop-frame.gathering f c.in_ok-last.last c.hear.new.gathering)
    c.as_slice.ensures.value c.in_ok-last.ensures)
