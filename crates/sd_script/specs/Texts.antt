-- The text of the made script, packet by packet.
use Rattle.std.specs.Prelude.{ℕ, ◌+◌, ◌-◌, ◌==◌, if◌then◌else◌, List, [], ◌++◌, flat_map}
use Rattle.std.specs.List.{range_with_len}
use Rattle.sd_model_replay.specs.Script.{script_text, spelled, end_word}
use Rattle.sd_model_replay.specs.MadeScript.{made_packet, flush_behind}

-- the word that ends the script, where packet j of n is the last
abbrev pub end_behind : ℕ → ℕ → List ℕ
end_behind n j = if j + 1 == n then end_word else []

-- the text of packet j of n, with what stands behind it before the next one
unfoldable pub text_at : ℕ → ℕ → List ℕ
text_at n j = spelled (made_packet j) ++ script_text (flush_behind n j) ++ end_behind n j

-- the text from packet j of n on
unfoldable pub text_from : ℕ → ℕ → List ℕ
text_from n j = flat_map (text_at n) (range_with_len j (n - j))
