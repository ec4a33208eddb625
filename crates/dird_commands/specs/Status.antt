-- Exit statuses.
use Rattle.std.specs.Prelude.{ℕ}
use Rattle.dird_commands.specs.declared.status.ExitStatus.{ExitStatus}
use Rattle.dird_commands.specs.declared.status.ExitStatus.TheVariants.{Done, Refused, BadCommandLine}

-- 0 for done, 1 for refused, 2 for a bad command line
abbrev pub exit_code : ExitStatus → ℕ
exit_code Done = 0
exit_code Refused = 1
exit_code BadCommandLine = 2
