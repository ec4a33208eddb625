-- An update that is refused changes nothing.
use Rattle.std.proofs.Common.{◌≡◌, ℕ, List, Result, Ok, Err, refl}
use Rattle.dir_store.specs.directory_api.ldap_op.Values.{OpValue}
use Rattle.dir_store.specs.indexed_tree.Directory.{Directory, NamedEntry}
use Rattle.dir_store.specs.directory_api.Answers.{ReplyModel, only}
use Rattle.dir_store.specs.Updates.{updated, with_entries, reply_of, applied, reply_to}

by_entries : (d : Directory) (r : Result (List NamedEntry) ReplyModel) → (reply_of r ≡ only 0 → ⊥) →
    with_entries d r ≡ d
by_entries d (Err reply) h = refl
by_entries d (Ok entries) h = absurd (h refl)

-- where the reply isn't success alone
pub refused_same : (d : Directory) (n : ℕ) (u : OpValue) → (reply_to d n u ≡ only 0 → ⊥) → applied d n u ≡ d
refused_same d n u h = by_entries d (updated d n u) h
