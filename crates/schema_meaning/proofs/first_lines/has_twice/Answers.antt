-- What search doesn't prove of `has_twice`: `loop-name-init` and `loop-name-preserved`, by lemmas of `Before`.
use Rattle.std.proofs.Common.{◌||◌, ◌+◌, ℕ, Bool, List, ◌∷◌, Vec, Global, ap, sym, ◌∙◌, map, drop}
use Rattle.schema_meaning.specs.Naming.{has_twice}
use Rattle.schema_meaning.specs.private.Octets.{number_at}
use Rattle.schema_meaning.proofs.Before.{is_seen, none_seen, seen_more, opened}
use Rattle.schema_meaning.proofs.first_lines.has_twice.Goals as goal

pub loop-name-init : goal.loop-name-init
loop-name-init c =
    ap (λ (l : List (Vec ℕ Global × ℕ)). is_seen (number_at l) (map (λ v. v.items) c.args.names.now) || has_twice
    (map (λ v. v.items) c.args.names.now)) c.new-seen.ensures.empty
    ∙ ap (λ (b : Bool). b || has_twice (map (λ v. v.items) c.args.names.now))
    (none_seen (map (λ v. v.items) c.args.names.now))

pub loop-name-preserved : goal.loop-name-preserved
loop-name-preserved c =
    let behind : List (List ℕ) = map (λ v. v.items) (drop (c.loop-name.name-index + 1) c.args.names.now) in
    seen_more (number_at c.loop-name.seen.entries) (number_at c.see.new.seen.entries) c.as_slice.result.now behind
    c.in_ok-before.ensures.taken (sym c.in_ok-before.ensures.before ∙ c.if-before.false)
    ∙ ap (λ (m : List ℕ). is_seen (number_at c.loop-name.seen.entries) (m ∷ behind) || has_twice (m ∷ behind))
    c.as_slice.ensures.value
    ∙ ap (λ (ys : List (Vec ℕ Global)). is_seen (number_at c.loop-name.seen.entries) (map (λ v. v.items) ys) ||
    has_twice (map (λ v. v.items) ys))
    (sym (opened c.args.names.now c.loop-name.name-index c.name-item.result c.loop-name-test.true c.name-item.is))
    ∙ c.loop-name.invariant
