use Rattle.session_turns.specs.private.Below.{IsMostBelow}
use Rattle.session_turns.proofs.holders.Holders.rather.Given as goal

-- the first of those so far
abbrev pub invariant-loop-place : goal.invariant-loop-place
invariant-loop-place l = IsMostBelow l.self l.fn.own l.place l.first l.least
