-- What search doesn't prove of `grow_by`: the invariant, by lemmas of `Mixing`.
use Rattle.std.proofs.Common.{◌∷◌, sym, subst, map, reverse}
use Rattle.journal.specs.Memory.{event, grow}
use Rattle.journal.specs.private.Memory.{IsReplayed}
use Rattle.journal.proofs.Mixing.{replayed_ungrown, recorded_push}
use Rattle.journal.proofs.memory.MemoryDevice.grow_by.Goals as goal

pub invariant_of-self-in-Continue-branch-3 : goal.invariant_of-self-in-Continue-branch-3
invariant_of-self-in-Continue-branch-3 c =
    recorded_push event c.self.inside.calls.items c.push-else-is_done.new.self.items _ c.self.inside.base.items
    c.self.inside.bytes.items c.in_ok-push-2.ensures.items
    (subst (λ b. IsReplayed c.self.inside.base.items (grow c.args.octets b ∷ reverse
    (map event c.self.inside.calls.items)) c.self.inside.bytes.items) (sym c.if-is_done.false)
    (replayed_ungrown c.self.inside.base.items (reverse (map event c.self.inside.calls.items))
    c.self.inside.bytes.items c.args.octets c.self.invariant))
