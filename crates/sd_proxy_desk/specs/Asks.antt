-- What a proxy's desk is asked for, and what it does.
use Rattle.std.specs.Prelude.{◌≡◌, ℕ, List, map}
use Rattle.sd_model_live.specs.Port.{CountsCheck, CountsRead, HearsFacts, IsHeard, ProxyAct, ProxyEvent, SaysHealth, facts_after, first_facts}
use Rattle.sd_model_live.specs.Port as model
use Rattle.sd_proxy_desk.specs.Views.{facts_view, totals_view}
use Rattle.sd_proxy_desk.specs.declared.ask.ProxyAsk.{ProxyAsk}
use Rattle.sd_proxy_desk.specs.declared.ask.ProxyAsk.TheVariants.{Check, Count, Facts, SetHealth}
use Rattle.sd_proxy_desk.specs.declared.ask.ProxyReply.{ProxyReply}
use Rattle.sd_proxy_desk.specs.declared.ask.ProxyReply.TheVariants.{Done, Reported}
use Rattle.sd_proxy_desk.specs.declared.facts.ProxyFacts.{ProxyFacts}
use Rattle.sd_proxy_desk.specs.declared.noted.Noted.{Noted}

-- the facts of a reply; a reply that tells none isn't given where facts are asked for
abbrev pub facts_in : ProxyReply → model.ProxyFacts
facts_in Done = first_facts
facts_in (Reported f) = facts_view f

-- the event that an ask and its reply are
abbrev pub event_of : ProxyAsk → ProxyReply → ProxyEvent
event_of (Count totals) reply = CountsRead (totals_view totals)
event_of (Check failed) reply = CountsCheck failed
event_of (SetHealth up) reply = SaysHealth up
event_of Facts reply = HearsFacts (facts_in reply)

-- a reply is one that is given to this ask: the facts where they are asked for, and else that it is done
abbrev pub IsReplyTo : ProxyAsk → ProxyReply → Type 0
IsReplyTo Facts reply = (f : ProxyFacts) × (reply ≡ Reported f)
IsReplyTo ask reply = reply ≡ Done

-- the entry of a seat's number, an ask and a reply
abbrev pub entry_of : ℕ → ProxyAsk → ProxyReply → Noted
entry_of number ask reply = record { number = number; ask = ask; reply = reply }

-- the event of an entry
abbrev pub event_in : Noted → ProxyEvent
event_in n = event_of n.ask n.reply

-- the events of entries, in order
abbrev pub events : List Noted → List ProxyEvent
events log = map event_in log

-- the act of an entry
abbrev pub act_in : Noted → ProxyAct
act_in n = record { who = n.number; event = event_in n }

-- the acts of entries, in order
abbrev pub acts : List Noted → List ProxyAct
acts log = map act_in log

-- A desk with these facts was asked, and left and answered as the call of that name does.
pub record Does (before : model.ProxyFacts) (ask : ProxyAsk) (after : model.ProxyFacts) (reply : ProxyReply) : Type 0 where
  pub changed : after ≡ facts_after before (event_of ask reply)
  pub promised : IsHeard before (event_of ask reply)
  pub replied : IsReplyTo ask reply
