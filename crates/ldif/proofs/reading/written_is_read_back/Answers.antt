-- LDIF, reading: what is written is read back.
use Rattle.ldif.proofs.RoundTrips.{records_return}
use Rattle.ldif.proofs.reading.written_is_read_back.Goals as goal

pub returns : goal.returns
returns c = records_return
