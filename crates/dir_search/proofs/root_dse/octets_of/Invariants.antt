use Rattle.std.proofs.Common.{◌≡◌, map, take}
use Rattle.dir_search.proofs.root_dse.octets_of.Given as goal

-- the octets of the texts so far
abbrev pub invariant-loop-text : goal.invariant-loop-text
invariant-loop-text l = map (λ x. x.items) l.all.items ≡ map (λ t. t.now) (take l.text-index l.texts)
