-- What search doesn't prove of `way_over`: the clause `way`, the clause `foreign` and the clause `stale`, by lemmas of
-- `Starts`.
use Rattle.std.proofs.Common.{subst}
use Rattle.log_journal.specs.Found.{IsFound}
use Rattle.log_journal.specs.Views.{told_view}
use Rattle.dir_node.proofs.Starts.{way_told_by}
use Rattle.dir_node.proofs.restarting.way_over.Goals as goal

pub returns-in-Some-clause-way : goal.returns-in-Some-clause-way
returns-in-Some-clause-way c = λ strings h.
    way_told_by c.args.owner c.args.pair strings (told_view c.in-Some.told) c.way_of.result
    (subst (λ f. IsFound f strings) c.in-Some.is h).1 c.way_of.ensures.way

pub returns-in-Some-clause-foreign : goal.returns-in-Some-clause-foreign
returns-in-Some-clause-foreign c = λ strings h is.
    (told_view c.in-Some.told, (subst (λ f. IsFound f strings) c.in-Some.is h).1, c.way_of.ensures.foreign is)

pub returns-in-Some-clause-stale : goal.returns-in-Some-clause-stale
returns-in-Some-clause-stale c = λ strings h is.
    (told_view c.in-Some.told, (subst (λ f. IsFound f strings) c.in-Some.is h).1, c.way_of.ensures.stale is)

pub returns-in-None-clause-way : goal.returns-in-None-clause-way
returns-in-None-clause-way c = λ strings h. subst (λ f. IsFound f strings) c.in-None.is h
