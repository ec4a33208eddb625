-- What search doesn't prove of `take_frame`: what it returns, by lemmas of `Advancing`.
use Rattle.journal.proofs.Advancing.{frame_taken}
use Rattle.journal.proofs.reader.StringReader.take_frame.Goals as goal

pub returns-in-Some : goal.returns-in-Some
returns-in-Some c = frame_taken c.args.self.now c.ahead.result.now c.in-Some.size c.ahead.ensures
    c.in-Some.ensures.whole c.in-Some.ensures.size
