-- What search doesn't prove of `laws`: what it returns, step by step.
use Rattle.dir_machine.proofs.running.laws.Goals as goal

pub returns : goal.returns
returns c = record {
  frames = c.frames_give_message.ensures;
  one = c.one_is_told.ensures;
  last = c.each_step.ensures.last;
  latest = c.each_step.ensures.latest;
}
