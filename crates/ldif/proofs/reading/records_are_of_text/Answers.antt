-- LDIF, reading: what is read is of the grammar.
use Rattle.ldif.proofs.Grammar as grammar
use Rattle.ldif.proofs.reading.records_are_of_text.Goals as goal

pub returns : goal.returns
returns c = grammar.records_are_of_text
