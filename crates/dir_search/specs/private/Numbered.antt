-- Entries by their numbers: what contracts that aren't public say of it.
-- What public contracts say is in specs/Numbered.
use Rattle.std.specs.Prelude.{ℕ, List, [], ◌∷◌, map, filter, Option, None, Some}
use Rattle.indexed_tree.specs.ldap_schema.Schema.{SchemaModel}
use Rattle.indexed_tree.specs.directory_api.ldap_msg.Messages.{SearchRequestValue}
use Rattle.indexed_tree.specs.dir_tree.Directory.{Entered, entry_at}
use Rattle.indexed_tree.specs.Stored.{named}
use Rattle.dir_search.specs.Answer.{is_match, limited}
use Rattle.indexed_tree.specs.directory_api.Answers.{Answer}
use Rattle.dir_search.specs.Selection.{selected}

-- an entry, where there is one, in front
abbrev pub put_some : Option Entered → List Entered → List Entered
put_some None es = es
put_some (Some e) es = e ∷ es

-- the entries of these numbers, in their order
abbrev pub entries_of : List ℕ → List Entered → List Entered
entries_of [] d = []
entries_of (k ∷ ks) d = put_some (entry_at k d) (entries_of ks d)

-- what a search shows of the entries of these numbers that match, up to the limit
abbrev pub found_of : SchemaModel → SearchRequestValue → List ℕ → List Entered → Answer
found_of s q ks d = limited q.size_limit (map (selected s q.attributes q.types_only)
    (filter (is_match s q.filter) (map named (entries_of ks d))))
