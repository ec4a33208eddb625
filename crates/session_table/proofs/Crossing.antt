-- A table may cross threads. It holds sessions, these hold parsed messages, and those hold filters, which are trees.
use denote.Param.Send.{IsSend, sendable}
use Rattle.std.proofs.Crossing.{crosses}
use Rattle.std.proofs.net.tcp.TcpStream.TheSendSync as stream
use Rattle.std.proofs.time.Duration.TheSendSync as duration
use Rattle.std.proofs.time.Instant.TheSendSync as instant
use Rattle.ldap_session.below.bytes.proofs.unique.BytesMut.TheSendSync as octets
use Rattle.ldap_session.below.ldap_filter.proofs.tree.Filter.TheLaws.TheKnot as filter
use Rattle.ldap_session.below.ldap_framer.specs.contracts.framer.Framer as Framer
use Rattle.session_turns.proofs.Book.TheSendSync as book
use Rattle.session_turns.proofs.Turns.TheSendSync as turns
use Rattle.session_turns.proofs.Holders.TheSendSync as holders
use Rattle.session_turns.proofs.Lead.TheSendSync as lead
use Rattle.session_table.specs.contracts.pooled.PooledSession as PooledSession
use Rattle.session_table.specs.contracts.table.Table as Table

framer_send : IsSend Framer.the_field.row
framer_send = search (octets.the_send, filter.crosses, crosses, sendable) depth 60 fits 20000

session_send : IsSend PooledSession.the_row
session_send = search (
  framer_send,
  octets.the_send,
  stream.the_field_send,
  instant.the_field_send,
  duration.the_field_send,
  crosses,
  sendable,
) depth 60 fits 20000

pub table_send : IsSend Table.the_row
table_send = search (
  session_send,
  book.the_send,
  turns.the_send,
  holders.the_send,
  lead.the_send,
  instant.the_send,
  crosses,
  sendable,
) depth 60 fits 20000
