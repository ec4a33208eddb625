-- What search doesn't prove of `events_in`: `loop-at-preserved`, by lemmas of `Each` and `Lines`.
use Rattle.std.proofs.Common.{ℕ, List, subst}
use Rattle.lab_script.specs.Lines.{IsLine}
use Rattle.lab_script.proofs.Each.{views}
use Rattle.lab_script.proofs.Lines.{line_more, bad_later}
use Rattle.lab_script.proofs.playing.events_in.Goals as goal

pub loop-at-preserved : goal.loop-at-preserved
loop-at-preserved c =
    let names : IsLine c.index-lines-at.result.items (views c.in_ok-found.found.items) =
    subst (λ (l : List ℕ). IsLine l (views c.in_ok-found.found.items)) c.deref.ensures.value
    c.in_ok-found.ensures.found in
    record {
      read = line_more c.args.lines.now c.loop-at.at c.index-lines-at.result c.loop-at.events.items
          c.in_ok-found.found.items c.append.new.self.items c.loop-at.invariant.read c.loop-at-test.true
          c.index-lines-at.is names c.in_ok-append.ensures.items;
      good = λ n h. c.loop-at.invariant.good n (bad_later c.args.lines.now c.loop-at.at n c.index-lines-at.result
          (views c.in_ok-found.found.items) c.loop-at-test.true c.index-lines-at.is names h);
    }
