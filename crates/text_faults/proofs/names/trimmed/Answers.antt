-- What search doesn't prove of `trimmed`: what it returns, step by step.
use Rattle.std.proofs.Common.{refl}
use Rattle.std.proofs.lemmas.Str.Ascii.{trim_ascii_is}
use Rattle.text_faults.specs.Names.{less_front}
use Rattle.text_faults.proofs.names.trimmed.Goals as goal

pub returns : goal.returns
returns c = trim_ascii_is c.args.octets.now c.trim_ascii.result.now (less_front c.args.octets.now) refl
    c.trim_ascii.ensures.value
