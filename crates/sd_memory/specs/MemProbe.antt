-- What a probe in memory has, and what a question leaves.
use Rattle.std.specs.Prelude.{◌≡◌, ℕ, ◌-◌, ◌<◌, Bool, true, false, List, drop, length, map, min, None}
use Rattle.sd_model_outside.specs.Outside as model
use Rattle.sd_model_outside.specs.Outside.{Object, Content, Unknown, Replies, Place, last_count, object_of}
use Rattle.sd_outside.specs.Turns.{raised}
use Rattle.sd_model_outside.specs.Uses.{HasAsked, Tells}
use Rattle.sd_outside.specs.Places.{place_of}
use Rattle.sd_memory.specs.declared.mem_probe.MemProbe.{MemProbe}
use Rattle.sd_memory.specs.declared.mem_probe.Question.{Question}

-- the replies that it has left
abbrev pub left_of : MemProbe → List (List ℕ)
left_of p = map (λ reply. reply.items) (drop p.taken p.replies.items)

-- the questions that it noted
abbrev pub asked_of : MemProbe → List Question
asked_of p = p.questions.items

-- a question as the definitions have it
abbrev pub question_of : Question → model.Question
question_of q = record { place = place_of q.at; is_answered = q.is_answered }

-- what it tells: nothing once a question came for which no room was left
abbrev pub content_by : Bool → List (List ℕ) → List model.Question → Content
content_by true left questions = Unknown
content_by false left questions = Replies left questions

-- what is seen of it, which is opened nowhere
abbrev pub seen_of : MemProbe → Object
seen_of p = object_of (content_by p.is_full (left_of p) (map question_of (asked_of p))) (min p.faults last_count) None

-- how many questions more it has room for
abbrev pub room_in : MemProbe → ℕ
room_in p = p.room - length (asked_of p)

-- how often it was asked, up to the last count
abbrev pub calls_of : MemProbe → ℕ
calls_of p = p.calls

-- A question failed, which was counted. It was noted where there was room for it, and else nothing is told from then on.
pub record Fails (place : Place) (old new : MemProbe) : Type 0 where
  pub asked : HasAsked place None (seen_of old) (seen_of new)
  pub faults : (seen_of new).faults ≡ raised (seen_of old).faults
  pub noted : 0 < room_in old → Tells place None (seen_of old).content (seen_of new).content
  pub silent : room_in old ≡ 0 → (seen_of new).content ≡ Unknown
