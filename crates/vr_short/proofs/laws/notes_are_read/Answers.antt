-- What search doesn't prove of `notes_are_read`: what it returns, step by step.
use Rattle.std.proofs.Common.{refl}
use Rattle.std.proofs.lemmas.Nat.{from_be_bytes-to_be_bytes_8}
use Rattle.vr_short.proofs.laws.notes_are_read.Goals as goal

pub returns : goal.returns
returns c = λ cluster sender n small. (refl, from_be_bytes-to_be_bytes_8 n small)
