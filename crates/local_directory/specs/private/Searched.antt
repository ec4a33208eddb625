-- LDIF and the directory: what contracts that aren't public say of it.
-- What public contracts say is in specs/Searched.
use Rattle.std.specs.Prelude.{◌≡◌, ℕ, List}
use Rattle.dir_store.specs.directory_api.Answers.{Answer}
use Rattle.local_directory.specs.Searched.{answer_text}

-- an answer with success, and its text
pub record IsShown (a : Answer) (out : List ℕ) : Type 0 where
  pub success : a.code ≡ 0
  pub written : out ≡ answer_text a
