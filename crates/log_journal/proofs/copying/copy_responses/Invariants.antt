use Rattle.std.proofs.Common.{◌≡◌, take}
use Rattle.log_journal.proofs.copying.copy_responses.Given as goal

-- so far the copies are those of a beginning
abbrev pub invariant-loop-response : goal.invariant-loop-response
invariant-loop-response l = l.copied.items ≡ take l.response-index l.responses
