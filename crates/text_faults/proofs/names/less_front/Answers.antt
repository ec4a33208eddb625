-- What search doesn't prove of `less_front`: what it returns, step by step.
use Rattle.std.proofs.lemmas.Str.Ascii.{trim_ascii_start_is}
use Rattle.text_faults.proofs.names.less_front.Goals as goal

pub returns : goal.returns
returns c = trim_ascii_start_is c.args.octets.now c.trim_ascii_start.result.now c.trim_ascii_start.ensures.value
