-- What replies, answers, roles and ends of updates in memory stand for.
use Rattle.std.specs.Prelude.{map, string_bytes}
use Rattle.directory_api.specs.FoundView.{found_view}
use Rattle.directory_api.specs.Answers.{ReplyModel, Answer}
use Rattle.directory_api.specs.declared.reply.Reply.{Reply}
use Rattle.directory_api.specs.declared.search_answer.SearchAnswer.{SearchAnswer}
use Rattle.directory_api.specs.Talk.{RoleValue, primary, backup, changing, recovering, EndedValue, done, stale, lost, refused_memory}
use Rattle.directory_api.specs.declared.gate.Role.{Role}
use Rattle.directory_api.specs.declared.gate.Role.TheVariants.{Primary, Backup, Changing, Recovering}
use Rattle.directory_api.specs.declared.gate.Ended.{Ended}
use Rattle.directory_api.specs.declared.gate.Ended.TheVariants.{Done, Stale, Lost, NoMemory}

-- the result of an update
abbrev pub reply_view : Reply → ReplyModel
reply_view r = record { code = r.code; matched = string_bytes r.matched }

-- the answer of a search
abbrev pub answer_view : SearchAnswer → Answer
answer_view a = record { code = a.code; matched = string_bytes a.matched; entries = map found_view a.entries.items }

-- what a replica is, and the URI of the primary where it isn't
abbrev pub role_view : Role → RoleValue
role_view Primary = primary
role_view (Backup uri) = backup (string_bytes uri)
role_view Changing = changing
role_view Recovering = recovering

-- how an update ended
abbrev pub ended_view : Ended → EndedValue
ended_view (Done number reply) = done number (reply_view reply)
ended_view Stale = stale
ended_view Lost = lost
ended_view NoMemory = refused_memory
