-- What search doesn't prove of `none_of_type`: what it returns, by lemmas of `Written` (`text_faults`).
use Rattle.std.proofs.Common.{◌++◌, ap, codes, cond, string_bytes, ◌∙◌}
use Rattle.std.specs.Str.{is_utf8}
use Rattle.std.proofs.lemmas.Result.{IfOk-weaker}
use Rattle.text_faults.proofs.Written.{two_words}
use Rattle.text_faults.specs.Words.{word_shown}
use Rattle.ldif_faults.proofs.values.none_of_type.Goals as goal

pub returns : goal.returns
returns c =
    let line = c.args.line.now in
    IfOk-weaker c.format.result _ _
    (λ s p. p ∙ ap (λ z. codes "'" ++ word_shown line.octets ++ codes "' is no value of '" ++ word_shown
    line.description ++ z)
    (c.end_of-end.ensures ∙ ap (λ o. cond (is_utf8 o) (codes "'") (codes "': it is not UTF-8")) c.octets-2.ensures))
    (two_words string_bytes c.format.result (codes "'") _ _ (codes "' is no value of '") _ _ c.end_of-end.result.now
    (c.in_ok-value.ensures ∙ ap word_shown c.octets.ensures) (c.in_ok-word.ensures
    ∙ ap word_shown c.description.ensures) c.format.ensures.ok)
