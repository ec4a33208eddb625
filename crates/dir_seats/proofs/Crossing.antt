-- Versions of the directory, and the seats that read them, may cross threads, as rules for `search`: whoever hands
-- seats to threads names them.
use denote.RattleType.{RattleType}
use denote.Builtin.{bool}
use denote.Struct.Declared
use denote.Struct.Tuple.{Tuple}
use denote.Param.Send.{IsSend, IsSync, sendable, struct_send, struct_sync, plain_send, recorded_send, recorded_sync, view_send}
use mathlib.Core.List.{◌∷◌, []}
use Rattle.std.proofs.Crossing.{crosses}
use Rattle.std.proofs.marker.PhantomData.TheSendSync as phantom
use Rattle.std.specs.contracts.alloc.Global as Global
use Rattle.std.specs.contracts.impls.GlobalAllocator.TheImpl as GlobalRule
use Rattle.left_right.proofs.reader.Reader.TheSendSync as reader
use Rattle.left_right.proofs.reader.Factory.TheSendSync as factory
use Rattle.left_right.proofs.writer.Writer.TheSendSync as writer
use Rattle.left_right.specs.contracts.reader.Factory as Factory
use Rattle.left_right.specs.contracts.reader.Reader as Reader
use Rattle.left_right.specs.contracts.writer.Writer as Writer
use Rattle.state_machine.proofs.Crossing.{store_crosses}
use Rattle.state_machine.specs.contracts.executed.Executed as Executed
use Rattle.dir_seats.specs.contracts.rule.Published as Published
use Rattle.dir_seats.specs.contracts.rule.PublishedProtocolShownFloor.TheImpl as PublishedRule
use Rattle.dir_seats.specs.contracts.publisher.Publisher as Publisher
use Rattle.dir_seats.specs.contracts.publisher.Publisher.TheInside as PublisherInside
use Rattle.dir_seats.specs.contracts.shown.ShownAbsorb.TheImpl as ShownRule
use Rattle.dir_seats.specs.contracts.teller.Teller as Teller
use Rattle.dir_seats.specs.contracts.seat.Seat as Seat
use Rattle.dir_seats.specs.contracts.seat.Seat.TheInside as Inside
use Rattle.dir_seats.specs.contracts.shown.Version as Version
use Rattle.dir_seats.specs.contracts.shown.Shown as Shown

version_send : IsSend Version.the_field.row
version_send = search (store_crosses, crosses, sendable) depth 60 fits 20000

version_sync : IsSync Version.the_field.row
version_sync = search (store_crosses, crosses, sendable) depth 60 fits 20000

pub shown_send : IsSend Shown.the_field.row
shown_send = search (version_send, version_sync, crosses, sendable) depth 60 fits 20000

pub shown_sync : IsSync Shown.the_field.row
shown_sync = search (version_send, version_sync, crosses, sendable) depth 60 fits 20000

global_send : IsSend Global.the_field.row
global_send = search (crosses, sendable) depth 20

reader_send :
    IsSend
    (Reader.the_field Shown.the_row (Tuple (bool ∷ Executed.the_row ∷ [])) Published.the_row Global.the_row
    PublishedRule.ghosts GlobalRule.ghosts).row
reader_send = search (shown_sync, reader.the_field_send, crosses, sendable) depth 60 fits 20000

inside_send : (N : RattleType) → IsSend (Inside.the_row N)
inside_send N =
    recorded_send (Inside.the_field N).row _ _ (Inside.the_type N).to_one
    (struct_send (Declared.shape (Inside.the_type N))
    (reader_send, (plain_send _ _ _ _ _, (phantom.the_field_send N, tt))))

pub seat_send : (N : RattleType) → IsSend (Seat.the_row N)
seat_send N = view_send (Inside.the_row N) _ _ _ _ (inside_send N)

writer_send :
    IsSend
    (Writer.the_field Shown.the_row Shown.the_row (Tuple (bool ∷ Executed.the_row ∷ [])) Published.the_row
    Global.the_row Executed.the_row ShownRule.ghosts PublishedRule.ghosts GlobalRule.ghosts).row
writer_send = search (shown_send, shown_sync, writer.the_field_send, crosses, sendable) depth 60 fits 20000

publisher_inside_send : (N R : RattleType) → IsSend R → IsSend (PublisherInside.the_row N R)
publisher_inside_send N R s =
    recorded_send (PublisherInside.the_field N R).row _ _ (PublisherInside.the_type N R).to_one
    (struct_send (Declared.shape (PublisherInside.the_type N R))
    (global_send, (writer_send, (plain_send _ _ _ _ _, (s, (phantom.the_field_send N, tt))))))

pub publisher_send : (N R : RattleType) → IsSend R → IsSend (Publisher.the_row N R)
publisher_send N R s = view_send (PublisherInside.the_row N R) _ _ _ _ (publisher_inside_send N R s)

factory_send :
    IsSend
    (Factory.the_field Shown.the_row (Tuple (bool ∷ Executed.the_row ∷ [])) Published.the_row Global.the_row
    PublishedRule.ghosts GlobalRule.ghosts).row
factory_send = search (shown_sync, factory.the_field_send, crosses, sendable) depth 60 fits 20000

factory_sync :
    IsSync
    (Factory.the_field Shown.the_row (Tuple (bool ∷ Executed.the_row ∷ [])) Published.the_row Global.the_row
    PublishedRule.ghosts GlobalRule.ghosts).row
factory_sync = search (shown_sync, factory.the_field_sync, crosses, sendable) depth 60 fits 20000

pub teller_send : (N : RattleType) → IsSend (Teller.the_row N)
teller_send N =
    recorded_send (Teller.the_field N).row _ _ (Teller.the_type N).to_one
    (struct_send (Declared.shape (Teller.the_type N)) (factory_send, (phantom.the_field_send N, tt)))

pub teller_field_sync : (N : RattleType) → IsSync (Teller.the_field N).row
teller_field_sync N = struct_sync (Declared.shape (Teller.the_type N)) (factory_sync, (phantom.the_field_sync N, tt))

pub teller_sync : (N : RattleType) → IsSync (Teller.the_row N)
teller_sync N = recorded_sync (Teller.the_field N).row _ _ (Teller.the_type N).to_one (teller_field_sync N)

pub ruleset shown_crosses = (shown_send, shown_sync, seat_send, publisher_send, teller_send, teller_sync)
