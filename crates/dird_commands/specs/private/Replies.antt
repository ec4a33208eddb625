-- The lines that a lab writes: what it shows comes in, text goes out.
use Rattle.std.specs.Prelude.{◌++◌, ℕ, List, [], ◌∷◌, codes, decimal, flat_map, length}
use Rattle.lab_script.specs.dir_lab.Shown.{Shown, Replied, Unavailable, NotYet, Answered, Standing, Down}
use Rattle.lab_script.specs.dir_lab.vr_world.declared.words.ReplyBy.{ReplyBy}
use Rattle.lab_script.specs.dir_lab.dir_search.directory_api.Answers.{Answer}
use Rattle.lab_script.specs.dir_lab.vr_state.declared.words.Status.{Status}
use Rattle.lab_script.specs.dir_lab.vr_state.declared.words.Status.TheVariants.{Normal, ViewChange, Recovering}

-- a line of output
abbrev pub line_of : List ℕ → List ℕ
line_of words = words ++ 10 ∷ []

-- a reply to an update: which replica gives it, whose request it answers, at which place of the log, and its result
-- code
abbrev pub reply_line : ReplyBy → ℕ → List ℕ
reply_line by code =
    line_of
    (codes "reply replica=" ++ decimal by.replica ++ codes " client=" ++ decimal by.reply.client.number ++ codes
    " number=" ++ decimal by.reply.request_number
    ++ codes " op=" ++ decimal by.reply.op_number ++ codes " code=" ++ decimal code)

-- an entry of an answer, by its name
abbrev pub entry_line : List ℕ → List ℕ
entry_line name = line_of (codes "entry " ++ name)

-- an answer of a search at a state of this number: its result code and how many entries it has
abbrev pub answer_line : ℕ → ℕ → ℕ → List ℕ
answer_line at code count = line_of (codes "answer at=" ++ decimal at ++ codes " code=" ++ decimal code ++ codes
    " entries=" ++ decimal count)

-- the same, and the names of its entries
abbrev pub answer_text : ℕ → Answer → List ℕ
answer_text at answer = answer_line at answer.code (length answer.entries) ++ flat_map (λ e. entry_line e.object_name)
    answer.entries

-- the word for a status
abbrev pub status_word : Status → List ℕ
status_word Normal = codes "normal"
status_word ViewChange = codes "changing"
status_word Recovering = codes "recovering"

-- the state of a replica: its view, its status, the length of its log and how much of it is committed
abbrev pub state_line : ℕ → ℕ → Status → ℕ → ℕ → List ℕ
state_line replica view status op commit =
    line_of
    (codes "state replica=" ++ decimal replica ++ codes " view=" ++ decimal view ++ codes " status=" ++ status_word
    status ++ codes " log=" ++ decimal op
    ++ codes " commit=" ++ decimal commit)

-- what is written of one thing that a lab shows
abbrev pub text_of : Shown → List ℕ
text_of (Replied by code) = reply_line by code
text_of Unavailable = line_of (codes "unavailable")
text_of (NotYet at) = line_of (codes "notyet at=" ++ decimal at)
text_of (Answered at answer) = answer_text at answer
text_of (Standing replica view status op commit) = state_line replica view status op commit
text_of (Down replica) = line_of (codes "state replica=" ++ decimal replica ++ codes " down")
