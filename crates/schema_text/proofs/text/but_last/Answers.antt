-- What search doesn't prove of `but_last`: what it returns, step by step.
use Rattle.std.proofs.Common.{ℕ, ◌-◌, List, length, map, take, ◌≡◌, sym, ap, ◌∙◌, arith}
use Rattle.std.proofs.lemmas.List.{take-map, length-map}
use Rattle.schema_text.proofs.text.but_last.Goals as goal

mapped : {A B : Type 0} (f : A → B) (n : ℕ) (xs : List A) → n ≡ length xs - 1 → map f (take n xs) ≡
    take (length (map f xs) - 1) (map f xs)
mapped f n xs e =
    ap (λ k. map f (take k xs)) e
    ∙ sym (take-map f (length xs - 1) xs)
    ∙ ap (λ k. take (k - 1) (map f xs)) (sym (length-map xs f))

pub returns : goal.returns
returns c = mapped (λ x. x.now) c.saturating_sub.result c.args.parts.now (omega (arith, c.saturating_sub.ensures))
