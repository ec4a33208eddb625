use Rattle.std.proofs.Common.{sym, subst}
use Rattle.dir_seats.specs.Lists.{IsBeginning, with_records}
use Rattle.dir_seats.specs.Showing.{Showing}
use Rattle.dir_seats.proofs.Begins.{holds_more, waits_for}
use Rattle.dir_seats.proofs.publisher.Publisher.append.Goals as goal

-- one version more is to be shown
pub invariant_of-self-2 : goal.invariant_of-self-2
invariant_of-self-2 g c =
    let Follows : Showing → Type 0 = λ s. IsBeginning (with_records s.published s.waiting) c.args.executed.now in
    rw c.in-Ok.ensures.desk
    (holds_more _ _ _ _ _ _ _ _ c.self.invariant c.in-Ok.ensures.pending c.in_ok-next.ensures
    (subst Follows (sym c.self.view_is) c.requires.follows) c.len-count.ensures)

pub returns-clause-waiting : goal.returns-clause-waiting
returns-clause-waiting g c =
    let Follows : Showing → Type 0 = λ s. IsBeginning (with_records s.published s.waiting) c.args.executed.now in
    rw c.in-Ok.ensures.desk (waits_for _ _ _ _ _ c.in-Ok.ensures.pending c.in_ok-next.ensures
    (subst Follows (sym c.self.view_is) c.requires.follows))
