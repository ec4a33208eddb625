-- The codes of what is kept of clients, in their order. Nothing rests on which order it is.
use Rattle.std.specs.Prelude.{ℕ, List, refl}
use Rattle.std.specs.FinMap as map
use Rattle.std.specs.Coded.{Coded, code_by, coded×, coded_list, coded_ℕ}
use Rattle.local_directory.specs.Latest.{KeptValue}
pub use Rattle.dir_store.specs.directory_api.log_entry.ClientOrder.{client_cmp}
pub use Rattle.dir_store.specs.directory_api.log_entry.private.ClientOrder.{coded_client}

-- what is kept, as its numbers and the octets of its name
abbrev pub coded_kept : Coded KeptValue
coded_kept =
    code_by (ℕ × (ℕ × (ℕ × List ℕ))) (coded× coded_ℕ (coded× coded_ℕ (coded× coded_ℕ (coded_list coded_ℕ))))
    (λ k. (k.request, (k.number, (k.reply.code, k.reply.matched))))
    (λ p. record { request = p.0; number = p.1.0; reply = record { code = p.1.1.0; matched = p.1.1.1 } }) (λ _. refl)

-- what is kept of clients, as its pairs
abbrev pub coded_table : Coded (map.FinMap client_cmp KeptValue)
coded_table = map.code coded_client coded_kept
