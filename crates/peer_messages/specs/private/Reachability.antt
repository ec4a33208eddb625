-- What is said of a replica that is dialed.
use Rattle.std.specs.Prelude.{Bool, true, false, Option, Some, None}
use Rattle.peer_messages.specs.declared.reachability.News.{News}
use Rattle.peer_messages.specs.declared.reachability.News.TheVariants.{Unreached, Reached}

-- What is said, by whether it was said last that it can't be reached, and whether it is: nothing that was said last.
abbrev pub news : Bool → Bool → Option News
news false false = Some Unreached
news false true = None
news true false = None
news true true = Some Reached

-- what was said last, after this
abbrev pub missed_after : Bool → Option News → Bool
missed_after missed None = missed
missed_after missed (Some Unreached) = true
missed_after missed (Some Reached) = false
