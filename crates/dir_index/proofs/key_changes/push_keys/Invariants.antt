use Rattle.std.proofs.Common.{◌≡◌, ◌++◌, map, take}
use Rattle.dir_index.proofs.key_changes.push_keys.Given as goal

abbrev pub invariant-loop-key : goal.invariant-loop-key
invariant-loop-key l = map (λ k. k.now) l.keys.items ≡ map (λ k. k.now) l.initial.keys.items ++ take l.key-index l.more
