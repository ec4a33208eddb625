-- The files of a replica may go to another thread: what clauses alone know of them owns nothing. What looks at it may
-- be shared.
use denote.Struct.Declared
use denote.Param.Send.{IsSend, IsSync, owning_send, recorded_send, struct_send, sendable}
use Rattle.std.proofs.Crossing.{crosses}
use Rattle.file_device.specs.contracts.file.FileDevice as FileDevice
use Rattle.file_device.specs.contracts.journal_file.JournalFile as JournalFile
use Rattle.file_device.specs.contracts.journal_guard.JournalGuard as JournalGuard
use Rattle.file_device.proofs.journal_guard.JournalGuard.TheSendSync as guard
use Rattle.file_device.specs.contracts.kept_octets.KeptOctets as KeptOctets
use Rattle.file_device.specs.contracts.known_octets.KnownOctets as KnownOctets

known_send : IsSend KnownOctets.the_row
known_send = owning_send KnownOctets.the_type (search sendable, tt) (λ d. tt) (λ k x w. tt)

kept_send : IsSend KeptOctets.the_row
kept_send = search (known_send, crosses, sendable) depth 40

pub journal_send : IsSend JournalFile.the_row
journal_send =
    recorded_send JournalFile.the_field.row _ _ JournalFile.the_type.to_one
    (struct_send (Declared.shape JournalFile.the_type) (
      search (crosses, sendable) depth 40,
      (
        search (kept_send, crosses, sendable) depth 40,
        (
          search (crosses, sendable) depth 40,
          (
            search (crosses, sendable) depth 40,
            (
              search (crosses, sendable) depth 40,
              (
                search (crosses, sendable) depth 40,
                (search (crosses, sendable) depth 40, tt),
              ),
            ),
          ),
        ),
      ),
    ))

pub file_send : IsSend FileDevice.the_row
file_send = search (known_send, crosses, sendable) depth 40

pub guard_sync : IsSync JournalGuard.the_row
guard_sync = search (guard.the_sync, crosses, sendable) depth 40
