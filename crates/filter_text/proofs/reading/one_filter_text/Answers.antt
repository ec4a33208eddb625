-- Filter texts, reading: the goals of `one_filter_text`, each by one lemma over trees.
use Rattle.filter_text.specs.Grammar.{filter_text}
use Rattle.filter_text.proofs.Unique.{text_unique}
use Rattle.filter_text.proofs.reading.one_filter_text.Goals as goal

pub returns-clause-unique : goal.returns-clause-unique
returns-clause-unique c = text_unique

pub returns-clause-printed : goal.returns-clause-printed
returns-clause-printed c = λ t u h p. text_unique u t (filter_text t) p (c.printed_is_a_text.ensures.spells t h)
