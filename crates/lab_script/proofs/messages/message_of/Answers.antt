-- What search doesn't prove of `message_of`: the clause `only` and the clause `bad`, step by step.
use Rattle.std.proofs.Common.{sym, ◌∙◌}
use Rattle.lab_script.proofs.messages.message_of.Goals as goal

pub returns-in-Ok-clause-only : goal.returns-in-Ok-clause-only
returns-in-Ok-clause-only c = λ m w. c.in-Ok.ensures.only m w.is_message w.within w.size

pub returns-in-Err-TooLarge-clause-bad : goal.returns-in-Err-TooLarge-clause-bad
returns-in-Err-TooLarge-clause-bad c = λ e m w. let bad = sym c.in-Err-TooLarge.field-0-is
    ∙ c.in-Err-TooLarge.ensures.only m w.is_message w.within w.size in cc

pub returns-in-Err-NotAMessage-clause-bad : goal.returns-in-Err-NotAMessage-clause-bad
returns-in-Err-NotAMessage-clause-bad c = λ e m w. let bad = sym c.in-Err-NotAMessage.field-0-is
    ∙ c.in-Err-NotAMessage.ensures.only m w.is_message w.within w.size in cc

pub returns-in-Err-TooDeep-clause-bad : goal.returns-in-Err-TooDeep-clause-bad
returns-in-Err-TooDeep-clause-bad c = λ e m w. let bad = sym c.in-Err-TooDeep.field-0-is
    ∙ c.in-Err-TooDeep.ensures.only m w.is_message w.within w.size in cc

pub returns-in-Err-TooManyItems-clause-bad : goal.returns-in-Err-TooManyItems-clause-bad
returns-in-Err-TooManyItems-clause-bad c = λ e m w. let bad = sym c.in-Err-TooManyItems.field-0-is
    ∙ c.in-Err-TooManyItems.ensures.only m w.is_message w.within w.size in cc
