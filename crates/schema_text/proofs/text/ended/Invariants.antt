use Rattle.std.proofs.Common.{◌≡◌, ◌++◌, map, drop}
use Rattle.schema_text.specs.Texts.{without_return}
use Rattle.schema_text.proofs.text.ended.Given as goal

abbrev pub invariant-loop-part : goal.invariant-loop-part
invariant-loop-part l = map (λ x. x.now) l.lines.items ++ map without_return
    (map (λ x. x.now) (drop l.part-index l.parts)) ≡ map without_return (map (λ x. x.now) l.parts)
