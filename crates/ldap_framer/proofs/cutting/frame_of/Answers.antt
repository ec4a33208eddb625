-- The goals of `frame_of` that no tactic closes, each by one lemma over plain lists.
use Rattle.std.proofs.Common.{subst, take, inr}
use Rattle.ldap_msg.specs.ldap_ber.declared.message_fault.MsgFault.TheVariants.{NotAMessage, TooDeep, TooManyItems}
use Rattle.ldap_msg.specs.Limits.{IsFault}
use Rattle.ldap_framer.proofs.Frames.{bad_frame}
use Rattle.ldap_framer.proofs.cutting.frame_of.Goals as goal

pub returns-in-Err-NotAMessage-clause-found : goal.returns-in-Err-NotAMessage-clause-found
returns-in-Err-NotAMessage-clause-found c = inr (bad_frame NotAMessage c.args.octets.now c.args.size c.requires.within
    c.requires.small c.requires.is_frame (subst (λ f. IsFault f (take c.args.size c.args.octets.now))
    c.in-Err-NotAMessage.field-0-is c.in-Err-NotAMessage.ensures.fault))

pub returns-in-Err-TooDeep-clause-found : goal.returns-in-Err-TooDeep-clause-found
returns-in-Err-TooDeep-clause-found c = bad_frame TooDeep c.args.octets.now c.args.size c.requires.within
    c.requires.small c.requires.is_frame (subst (λ f. IsFault f (take c.args.size c.args.octets.now))
    c.in-Err-TooDeep.field-0-is c.in-Err-TooDeep.ensures.fault)

pub returns-in-Err-TooManyItems-clause-found : goal.returns-in-Err-TooManyItems-clause-found
returns-in-Err-TooManyItems-clause-found c = bad_frame TooManyItems c.args.octets.now c.args.size c.requires.within
    c.requires.small c.requires.is_frame (subst (λ f. IsFault f (take c.args.size c.args.octets.now))
    c.in-Err-TooManyItems.field-0-is c.in-Err-TooManyItems.ensures.fault)
