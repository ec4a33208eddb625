-- What search doesn't prove of `value_twice`: what it returns, by lemmas of `Written` (`text_faults`).
use Rattle.std.proofs.Common.{ap, codes, string_bytes, ◌∙◌}
use Rattle.text_faults.proofs.Written.{two_words}
use Rattle.text_faults.specs.Words.{word_shown}
use Rattle.ldif_faults.proofs.values.value_twice.Goals as goal

pub returns : goal.returns
returns c =
    two_words string_bytes c.format.result (codes "the value '") _ _ (codes "' of '") _ _ (codes "' comes twice")
    (c.in_ok-value.ensures ∙ ap word_shown c.octets.ensures) (c.in_ok-word.ensures
    ∙ ap word_shown c.description.ensures) c.format.ensures.ok
