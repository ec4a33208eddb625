-- What search doesn't prove of `again`: `loop-name-init`, `loop-name-preserved` and what it returns, by lemmas of
-- `Again`.
use Rattle.std.proofs.Common.{◌≡◌, ◌+◌, ℕ, true, false, List, [], ◌∷◌, ◌++◌, Some, Vec, Global, cond, is_some, ap, sym, ◌∙◌, map, take, drop, refl}
use Rattle.std.specs.Char.{to_ascii_lowercase}
use Rattle.std.specs.Str.{bytes_eq}
use Rattle.schema_meaning.specs.Naming.{is_name_among}
use Rattle.schema_meaning.specs.private.Octets.{number_at, has_folded}
use Rattle.schema_faults.specs.Repeats.{again}
use Rattle.schema_faults.proofs.Again.{opened, one_more_seen, front_more, goes_past, comes_again}
use Rattle.schema_faults.proofs.repeats.again.Goals as goal

pub loop-name-init : goal.loop-name-init
loop-name-init c = record {
  seen = λ q. ap (λ (l : List (Vec ℕ Global × ℕ)). is_some (number_at l q)) c.new-seen.ensures.empty;
  again = refl;
}

pub loop-name-preserved : goal.loop-name-preserved
loop-name-preserved c =
    let names : List (Vec ℕ Global) = c.args.names.now in
    let i : ℕ = c.loop-name.name-index in
    let x : Vec ℕ Global = c.name-item.result in
    let before : List (List ℕ) = map (λ v. v.items) (take i names) in
    let behind : List (List ℕ) = map (λ v. v.items) (drop (i + 1) names) in
    let front : map (λ v. v.items) (take (i + 1) names) ≡ before ++ x.items ∷ [] = front_more names i x
    c.loop-name-test.true c.name-item.is in
    let put : (q : List ℕ) → number_at c.see.new.seen.entries q ≡ cond (bytes_eq q (map to_ascii_lowercase x.items))
    (Some 0) (number_at c.loop-name.seen.entries q) =
    λ q. c.in_ok-before.ensures.taken q ∙ ap (λ (m : List ℕ). cond (bytes_eq q (map to_ascii_lowercase m)) (Some 0)
    (number_at c.loop-name.seen.entries q)) c.as_slice-word.ensures.value
    in
    let new : is_name_among before x.items ≡ false =
    sym (c.loop-name.invariant.seen (map to_ascii_lowercase x.items))
    ∙ ap (λ (m : List ℕ). is_some (number_at c.loop-name.seen.entries (map to_ascii_lowercase m)))
    (sym c.as_slice-word.ensures.value)
    ∙ sym c.in_ok-before.ensures.before ∙ c.if-before.false
    in
    record {
      seen = λ q. one_more_seen (number_at c.loop-name.seen.entries) (number_at c.see.new.seen.entries) before x.items
          put c.loop-name.invariant.seen q ∙ ap (has_folded q) (sym front);
      again =
          ap (λ (b : List (List ℕ)). again b behind) front
          ∙ sym (goes_past before x.items behind new)
          ∙ ap (λ (ys : List (Vec ℕ Global)). again before (map (λ v. v.items) ys))
          (sym (opened names i x c.loop-name-test.true c.name-item.is))
          ∙ c.loop-name.invariant.again;
    }

pub returns-then-before : goal.returns-then-before
returns-then-before c =
    let names : List (Vec ℕ Global) = c.args.names.now in
    let i : ℕ = c.loop-name.name-index in
    let x : Vec ℕ Global = c.name-item.result in
    let before : List (List ℕ) = map (λ v. v.items) (take i names) in
    let behind : List (List ℕ) = map (λ v. v.items) (drop (i + 1) names) in
    let there : is_name_among before x.items ≡ true =
    sym (c.loop-name.invariant.seen (map to_ascii_lowercase x.items))
    ∙ ap (λ (m : List ℕ). is_some (number_at c.loop-name.seen.entries (map to_ascii_lowercase m)))
    (sym c.as_slice-word.ensures.value)
    ∙ sym c.in_ok-before.ensures.before ∙ c.if-before.true
    in
    ap Some c.as_slice-word.ensures.value
    ∙ sym (comes_again before x.items behind there)
    ∙ ap (λ (ys : List (Vec ℕ Global)). again before (map (λ v. v.items) ys))
    (sym (opened names i x c.loop-name-test.true c.name-item.is))
    ∙ c.loop-name.invariant.again
