-- Clients and log entries, handed on to those who know the protocol alone.
pub use Rattle.log_entry.specs.declared.words.Client.{Client}
pub use Rattle.log_entry.specs.declared.words.LogEntry.{LogEntry}
