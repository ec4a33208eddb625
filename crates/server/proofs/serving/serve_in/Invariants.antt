use Rattle.node_gate.specs.Identities.{identity_of}
use Rattle.server.proofs.serving.serve_in.Given as goal

-- the node that was just opened
abbrev pub ghosts-serve_opened : goal.ghosts-serve_opened
ghosts-serve_opened g a = record { own = identity_of a.opened.node }
