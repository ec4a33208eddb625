use Rattle.std.proofs.Common.{◌≡◌, drop}
use Rattle.lab_script.specs.Each.{all_of}
use Rattle.lab_script.proofs.OneByOne.{after}
use Rattle.lab_script.specs.Lines.{delivery_of}
use Rattle.lab_script.proofs.Each.{views}
use Rattle.lab_script.proofs.script.deliveries_of.Given as goal

-- what is read so far, and then what is left, is all
abbrev pub invariant-loop-token : goal.invariant-loop-token
invariant-loop-token l = after (views l.events.items) (all_of delivery_of (drop l.token-index l.tokens)) ≡
    all_of delivery_of l.tokens
