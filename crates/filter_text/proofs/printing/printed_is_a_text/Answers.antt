-- Filter texts: the goals of `printed_is_a_text`, each by one lemma over trees.
use Rattle.std.proofs.Common.{[]}
use Rattle.filter_text.proofs.Spelled.{filter_spells, spelled_filter}
use Rattle.filter_text.proofs.printing.printed_is_a_text.Goals as goal

pub returns-clause-spells : goal.returns-clause-spells
returns-clause-spells c = λ t h. filter_spells t [] h

pub returns-clause-only : goal.returns-clause-only
returns-clause-only c = λ t text p. spelled_filter t text [] p
