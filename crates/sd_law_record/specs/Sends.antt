-- The packets of sends on a wire, and how many failed.
use Rattle.std.specs.Prelude.{ℕ, not, List, map, filter, count_by}
use Rattle.sd_model_outside.specs.Uses.{WireSend}

-- the packets of the sends that didn't fail
abbrev pub packets_of : List WireSend → List (List ℕ)
packets_of sends = map (λ s. s.packet) (filter (λ s. not s.is_failed) sends)

-- how many of the sends failed
abbrev pub failed_among : List WireSend → ℕ
failed_among sends = count_by (λ s. s.is_failed) sends
