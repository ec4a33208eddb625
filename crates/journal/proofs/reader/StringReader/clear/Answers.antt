-- What search doesn't prove of `clear`: what `clear` requires, by lemmas of `Advancing`.
use Rattle.std.proofs.Common.{List, ℕ, sym, subst}
use Rattle.journal.specs.Frames.{recorded}
use Rattle.journal.specs.Journal.{IsRead}
use Rattle.journal.proofs.Advancing.{all_read}
use Rattle.journal.proofs.reader.StringReader.clear.Goals as goal

pub clear-requires-clause-read : goal.clear-requires-clause-read
clear-requires-clause-read g c =
    subst (λ (image : List ℕ). IsRead (recorded image) c.args.self.now.end image) (sym c.forget.ensures.seen)
    (all_read c.args.self.now (g.D.Device.seen c.args.device.now) c.requires.read c.requires.none)
