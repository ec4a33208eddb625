-- What search doesn't prove of `page`: what it returns, by lemmas of `Written`.
use Rattle.std.proofs.Common.{◌++◌, codes, ap, ◌∙◌, string_bytes}
use Rattle.status_page.specs.Pages.{metrics_text}
use Rattle.status_page.proofs.Written.{response_of}
use Rattle.status_page.proofs.writing.page.Goals as goal

pub returns-in_ok-push_all-in-Metrics : goal.returns-in_ok-push_all-in-Metrics
returns-in_ok-push_all-in-Metrics c =
    let text = metrics_text c.args.version.now c.args.figures.now c.args.counts.now in
    rw c.in-Metrics.is (response_of string_bytes c.response.result c.args.method (codes "200 OK") c.deref.result.now
    text
    (c.deref.ensures ∙ (c.in_ok-push_all-in-Metrics.ensures ∙ ap (λ z. z ++ text) c.new-text.ensures.bytes))
    c.response.ensures)
