-- Checking a file: a text and what a directory refuses of it come in, the verdict goes out.
use Rattle.std.specs.Prelude.{◌≡◌, ℕ, List, [], ◌∷◌}
use Rattle.local_directory.specs.indexed_tree.Directory.{Directory}
use Rattle.local_directory.specs.declared.refused_record.RefusedRecord.{RefusedRecord}
use Rattle.local_directory.specs.Checked.{IsChecked}
use Rattle.dird_commands.specs.declared.status.ExitStatus.{ExitStatus}
use Rattle.dird_commands.specs.declared.status.ExitStatus.TheVariants.{Done, Refused}

-- done where nothing is refused
abbrev pub verdict : List RefusedRecord → ExitStatus
verdict [] = Done
verdict (r ∷ rs) = Refused

-- The verdict on a text is of all its records, each added in turn.
pub record IsVerdict (d : Directory) (text : List ℕ) (status : ExitStatus) : Type 0 where
  pub count : ℕ
  pub refused : List RefusedRecord
  pub checked : IsChecked d text count refused
  pub is : status ≡ verdict refused
