-- What search doesn't prove of `play`: the clause `shown`, by lemmas of `Each` and `Sizes`.
use Rattle.std.proofs.Common.{ℕ, map, sym, ap, subst}
use Rattle.std.specs.Arc.{arc_value}
use Rattle.dir_lab.specs.Shown.{shown_view}
use Rattle.dir_lab.specs.declared.lab.Lab.{Lab}
use Rattle.lab_script.specs.Played.{IsPlayed}
use Rattle.lab_script.specs.Script.{IsSchedule, lines_in}
use Rattle.lab_script.proofs.Each.{views}
use Rattle.lab_script.proofs.Sizes.{is_size}
use Rattle.lab_script.proofs.playing.play.Goals as goal

pub returns-clause-shown : goal.returns-clause-shown
returns-clause-shown c =
    let schedule : IsSchedule (lines_in c.args.lines.now) c.new-lab.result.count
    (views c.in_ok-script.script.events.items) =
    subst (λ (n : ℕ). IsSchedule (lines_in c.args.lines.now) n (views c.in_ok-script.script.events.items))
    (sym (ap (λ (l : Lab). l.count) c.new-lab.ensures)) c.in_ok-script.ensures.found in
    let size = is_size (lines_in c.args.lines.now) c.new-lab.result.count (views c.in_ok-script.script.events.items)
    schedule in
    subst (λ (l : Lab). IsPlayed (arc_value l.schema) l.suffix (lines_in c.args.lines.now)
    (map shown_view c.in_ok-shown.shown.items)) c.new-lab.ensures
    (record {
      count = c.new-lab.result.count;
      events = c.in_ok-script.script.events.items;
      schedule = schedule;
      size = size;
      all = c.in_ok-shown.ensures.shown size;
      searches = c.in_ok-shown.ensures.searches;
      replies = c.in_ok-shown.ensures.replies;
      committed = c.in_ok-shown.ensures.committed size;
    })
