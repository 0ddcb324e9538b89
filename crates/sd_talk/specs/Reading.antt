-- A session so far, and a turn that ends it.
use Rattle.std.specs.Prelude.{◌≡◌, ℕ, List, ◌++◌}
use Rattle.std.specs.List.{AllByRecursion}
use Rattle.sd_model_outside.specs.Outside.{Object, HasRead, HasFailed, HasFailedBehind, IsAtEnd, given}
use Rattle.sd_model_serve.specs.Sessions as model
use Rattle.sd_model_serve.specs.Sessions.{Talk, EndsSession, FitsLine, bytes_of, replied, too_long_text}
use Rattle.sd_talk.specs.Answers.{Along}
use Rattle.sd_talk.specs.declared.sessions.SessionEnd.{SessionEnd}
use Rattle.sd_talk.specs.declared.sessions.SessionEnd.TheVariants as code

-- no more is read: the source is at its end, or failed
abbrev pub CannotRead : SessionEnd → Object → Object → Type 0
CannotRead code.End source source_now = (source_now ≡ source) × IsAtEnd source_now.content
CannotRead code.ReadFault source source_now = HasFailed source source_now
CannotRead ended source source_now = ⊥

-- it was replied that a line is too long, or that reply was cut
abbrev pub RepliesTooLong : SessionEnd → Object → Object → Type 0
RepliesTooLong code.LineTooLong sink sink_now = sink_now ≡ given too_long_text sink
RepliesTooLong code.WriteFault sink sink_now = HasFailedBehind too_long_text sink sink_now
RepliesTooLong ended sink sink_now = ⊥

module _ {E V : Type 0} (t : Talk E) (leads : E → V → V → Type 0) where
  -- Bytes were read behind those that were left, whole lines of them were executed and replied to, and the others are left.
  pub record Listens (old new : V) (rest rest_now : List ℕ) (source source_now sink sink_now : Object) : Type 0 where
    pub exchanges : List E
    pub bytes : List ℕ
    pub lines : AllByRecursion t.goes_on exchanges
    pub each : AllByRecursion (λ e. FitsLine (t.line e)) exchanges
    pub read : HasRead bytes source source_now
    pub cut : rest ++ bytes ≡ bytes_of t exchanges ++ rest_now
    pub did : Along leads exchanges old new
    pub written : sink_now ≡ given (replied t exchanges) sink

  -- A session ended so, at a last line of the bytes that were left, or behind them.
  pub record Stops (ended : model.SessionEnd) (old new : V) (rest : List ℕ) (source source_now sink sink_now : Object) : Type 0 where
    pub last : List E
    pub each : AllByRecursion (λ e. FitsLine (t.line e)) last
    pub behind : List ℕ
    pub cut : rest ≡ bytes_of t last ++ behind
    pub content : source_now.content ≡ source.content
    pub source_place : source_now.opened_at ≡ source.opened_at
    pub sink_place : sink_now.opened_at ≡ sink.opened_at
    pub did : Along leads last old new
    pub ends : EndsSession t ended last behind source.faults source_now sink sink_now
