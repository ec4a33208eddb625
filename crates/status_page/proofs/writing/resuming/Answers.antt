-- What search doesn't prove of `resuming`: what it returns, by lemmas of `Written`.
use Rattle.std.proofs.Common.{◌≡◌, ◌++◌, codes, decimal, ◌∙◌, append_assoc, string_bytes}
use Rattle.status_page.specs.Pages.{resuming_text}
use Rattle.status_page.proofs.Written.{response_of}
use Rattle.status_page.proofs.writing.resuming.Goals as goal

pub returns : goal.returns
returns c =
    let written : string_bytes c.in_ok-text.text ≡
    codes "resuming, " ++ (decimal
    c.args.done ++ (codes " of " ++ (decimal c.args.whole ++ (codes " " ++ (c.args.what.now ++ codes "\n")))))
    = c.in_ok-text.ensures.ok in
    response_of string_bytes c.unavailable.result c.args.method (codes "503 Service Unavailable") c.deref.result.now
    (resuming_text c.args.done c.args.whole c.args.what.now)
    (c.deref.ensures ∙ (written ∙ simp append_assoc))
    c.unavailable.ensures
