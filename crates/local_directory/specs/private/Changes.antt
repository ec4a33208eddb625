-- What a table of clients keeps after a change.
use Rattle.std.specs.Prelude.{Option, Some, None}
use Rattle.std.specs.FinMap as map
use Rattle.dir_store.specs.directory_api.log_entry.declared.words.Client.{Client}
use Rattle.local_directory.specs.private.ClientOrder.{client_cmp}
use Rattle.local_directory.specs.Latest.{KeptValue}

-- what is kept of each client, with this of one, or nothing
abbrev pub with_kept : map.FinMap client_cmp KeptValue → Client → Option KeptValue → map.FinMap client_cmp KeptValue
with_kept latest client (Some k) = map.insert latest client k
with_kept latest client None = map.remove latest client
