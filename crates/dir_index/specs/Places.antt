-- The key that a place stands for.
use Rattle.dir_index.specs.declared.list_key.ListKey.{ListKey}
use Rattle.dir_index.specs.declared.list_key.BorrowedKey.{BorrowedKey}

-- the key of the list at a place
abbrev pub key_at : BorrowedKey → ListKey
key_at p = record { type_id = p.type_id; rank = p.rank; octets = p.octets.now }
