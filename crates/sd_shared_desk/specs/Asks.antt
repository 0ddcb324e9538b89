-- What a shared desk is asked for, and what it does.
use Rattle.std.specs.Prelude.{◌≡◌, ℕ, List, map}
use Rattle.sd_model_record.specs.Desk.{Desk}
use Rattle.sd_model_record.specs.DeskHistory.{DeskAct, DeskAnswer, DeskCall, DeskEvent, DeskHistory, desk_step}
use Rattle.sd_model_record.specs.DeskHistory as model
use Rattle.sd_desk.specs.Facts.{facts_view}
use Rattle.sd_desk.specs.Marks.{marks_of}
use Rattle.sd_desk.specs.Tally.{tally_of}
use Rattle.sd_desk.specs.declared.facts.DeskFacts.{DeskFacts}
use Rattle.sd_desk.specs.declared.tally.Tally.{Tally}
use Rattle.sd_shared_desk.specs.declared.ask.DeskAsk.{DeskAsk}
use Rattle.sd_shared_desk.specs.declared.ask.DeskAsk.TheVariants.{Add, Take, SetHealth, Mark, AdminFault, RepeaterFaults, Facts}
use Rattle.sd_shared_desk.specs.declared.ask.DeskReply.{DeskReply}
use Rattle.sd_shared_desk.specs.declared.ask.DeskReply.TheVariants as reply
use Rattle.sd_shared_desk.specs.declared.noted.Noted.{Noted}

-- the event that an ask is
abbrev pub event_of : DeskAsk → DeskEvent
event_of (Add t now) = model.Add (tally_of t) now
event_of Take = model.Take
event_of (SetHealth up) = model.SetHealth up
event_of (Mark m) = model.Mark (marks_of m)
event_of AdminFault = model.AdminFault
event_of (RepeaterFaults n) = model.RepeaterFaults n
event_of Facts = model.Look

-- the answer that a reply is
abbrev pub answer_of : DeskReply → DeskAnswer
answer_of reply.Done = model.Done
answer_of (reply.Took t) = model.Took (tally_of t)
answer_of (reply.Reported f) = model.Reported (facts_view f)

-- the call of an ask and its reply
abbrev pub call_of : DeskAsk → DeskReply → DeskCall
call_of ask answer = record { event = event_of ask; answer = answer_of answer }

-- the entry of a seat's number, an ask and a reply
abbrev pub entry_of : ℕ → DeskAsk → DeskReply → Noted
entry_of number ask answer = record { number = number; ask = ask; reply = answer }

-- the call of an entry
abbrev pub call_in : Noted → DeskCall
call_in n = call_of n.ask n.reply

-- the calls of entries, in order
abbrev pub calls : List Noted → List DeskCall
calls log = map call_in log

-- the act of an entry
abbrev pub act_in : Noted → DeskAct
act_in n = record { who = n.number; call = call_in n }

-- the acts of entries, in order
abbrev pub acts : List Noted → DeskHistory
acts log = map act_in log

-- a reply is what the call of the ask's name answers of a desk
abbrev pub Answers : Desk → DeskAsk → DeskReply → Type 0
Answers d Take answer = (t : Tally) × (answer ≡ reply.Took t) × (tally_of t ≡ d.tally)
Answers d Facts answer = (f : DeskFacts) × (answer ≡ reply.Reported f) × (facts_view f ≡ d.facts)
Answers d ask answer = answer ≡ reply.Done

-- a reply is what that call answers of some desk
abbrev pub IsReplyTo : DeskAsk → DeskReply → Type 0
IsReplyTo ask answer = (d : Desk) × Answers d ask answer

-- a desk was asked, and left and answered as the call of that name does
pub record Does (before : Desk) (ask : DeskAsk) (after : Desk) (answer : DeskReply) : Type 0 where
  pub changed : after ≡ desk_step before (event_of ask)
  pub answered : Answers before ask answer
