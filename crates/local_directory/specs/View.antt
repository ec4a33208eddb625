-- What is kept in memory stands for.
use Rattle.std.specs.Prelude.{List, map}
use Rattle.dir_store.specs.directory_api.View.{reply_view}
use Rattle.dir_store.specs.directory_api.log_entry.declared.words.Client.{Client}
use Rattle.local_directory.specs.Latest.{KeptValue}
use Rattle.local_directory.specs.declared.kept.LatestReply.{LatestReply}

-- what is kept of one client
abbrev pub kept_view : LatestReply → KeptValue
kept_view k = record { request = k.request; number = k.number; reply = reply_view k.reply }

-- the entries of a table of clients
abbrev pub entries_view : List (Client × LatestReply) → List (Client × KeptValue)
entries_view es = map (λ e. (e.0, kept_view e.1)) es
