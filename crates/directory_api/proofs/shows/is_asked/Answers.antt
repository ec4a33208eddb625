-- What search doesn't prove of `is_asked`: what it returns, by lemmas of `Selectors`.
use Rattle.std.proofs.Common.{sym, ap, ◌∙◌, List, ℕ}
use Rattle.std.specs.Str.{str_eq_ignore_ascii_case}
use Rattle.directory_api.proofs.Selectors.{some_at}
use Rattle.directory_api.proofs.shows.is_asked.Goals as goal

pub returns-then-is_same_description : goal.returns-then-is_same_description
returns-then-is_same_description c =
    sym (some_at (str_eq_ignore_ascii_case c.args.description.now) c.args.selectors.now c.loop-selector.selector-index
    c.selector-item.result c.loop-selector-test.true c.selector-item.is
    (ap (λ (d : List ℕ). str_eq_ignore_ascii_case c.args.description.now d) (sym c.deref.ensures)
    ∙ sym c.is_same_description.ensures ∙ c.if-is_same_description.true))
