-- Sessions, as contracts tell them.
use Rattle.std.specs.Prelude.{◌≡◌, Bool}
use Rattle.sd_model_outside.specs.Outside.{Object}
use Rattle.sd_model_serve.specs.Sessions.{Visit, ends_by_fault, Dialogue, HasTalked, Talk, lines_in}
use Rattle.sd_model_serve.specs.Sessions as model
use Rattle.sd_talk.specs.Answers.{Along}
use Rattle.sd_talk.specs.declared.sessions.SessionEnd.{SessionEnd}
use Rattle.sd_talk.specs.declared.sessions.SessionEnd.TheVariants.{Quit, End, ReadFault, WriteFault, LineTooLong}

-- an end of the code, as the definitions have it
abbrev pub end_of : SessionEnd → model.SessionEnd
end_of Quit = model.Quit
end_of End = model.AtEnd
end_of ReadFault = model.ReadFault
end_of WriteFault = model.WriteFault
end_of LineTooLong = model.LineTooLong

-- a visit of which this is seen
abbrev pub visit_of : (asking asking_now answered answered_now : Object) → Bool → Visit
visit_of asking asking_now answered answered_now is_fault =
    record { asking = asking; asking_now = asking_now; answered = answered; answered_now = answered_now; is_fault = is_fault }

-- A session was held: it went so, it ended so, it is a fault just where it ended by one, and its lines lead from what was to what is.
pub record HoldsSession {E V : Type 0} (t : Talk E) (leads : E → V → V → Type 0) (ended : SessionEnd) (v : Visit) (old new : V) : Type 0 where
  pub dialogue : Dialogue E
  pub ended_is : dialogue.ended ≡ end_of ended
  pub talked : HasTalked t dialogue v.asking v.asking_now v.answered v.answered_now
  pub fault : v.is_fault ≡ ends_by_fault dialogue.ended
  pub did : Along leads (lines_in dialogue) old new
