-- What a sink that counts has, and what a write does to it.
use Rattle.std.specs.Prelude.{◌≡◌, ℕ, List, length, min}
use Rattle.sd_model_outside.specs.Outside.{Object, Number, given, last_count, object_of}
use Rattle.sd_outside.specs.Places.{last_place}
use Rattle.sd_outside.specs.declared.count_sink.CountSink.{CountSink}

-- what is seen of it, which never failed
abbrev pub seen_of : CountSink → Object
seen_of s = object_of (Number (min s.count last_count)) 0 (last_place s.opened_at)

-- a write of xs took all of them
pub record Takes (old new : CountSink) (xs : List ℕ) (n : ℕ) : Type 0 where
  pub whole : n ≡ length xs
  pub content : seen_of new ≡ given xs (seen_of old)
