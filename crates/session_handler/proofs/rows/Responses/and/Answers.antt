-- What search doesn't prove of `and`: the invariant and what it returns, by lemmas of `Cutting`.
use Rattle.std.proofs.Common.{List, ℕ, length, refl, ap, sym, ◌∙◌, ◌++◌, ◌∷◌, []}
use Rattle.session_handler.specs.Rows.{cut, total}
use Rattle.session_handler.proofs.Cutting.{cut_more, total_more}
use Rattle.session_handler.proofs.rows.Responses.and.Goals as goal

pub invariant_of-result : goal.invariant_of-result
invariant_of-result c =
    ap total c.in_ok-push.ensures.ok
    ∙ total_more c.self.inside.lengths.items c.self.inside.octets.items c.args.octets.now _ c.self.invariant refl
    ∙ ap (λ (l : List ℕ). length l) (sym c.in_ok-extend_from_slice.ensures.items)

pub returns : goal.returns
returns c =
    ap (λ (l : List ℕ). cut l c.extend_from_slice.new.self.items) c.in_ok-push.ensures.ok
    ∙ ap (cut _) c.in_ok-extend_from_slice.ensures.items
    ∙ cut_more c.self.inside.lengths.items c.self.inside.octets.items c.args.octets.now _ c.self.invariant refl
    ∙ ap (λ (l : List (List ℕ)). l ++ c.args.octets.now ∷ []) c.self.view_is
