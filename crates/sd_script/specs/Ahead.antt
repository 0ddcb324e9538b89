-- Bytes that were read ahead of what is asked for.
use Rattle.std.specs.Prelude.{◌≡◌, ℕ, List, ◌++◌, length, slice_range}
use Rattle.sd_script.specs.declared.ahead.Ahead.{Ahead}

-- the bytes that it holds
abbrev pub held_in : Ahead → List ℕ
held_in a = slice_range a.room.items a.start a.end

-- n bytes more are held
abbrev pub GrowsBy : ℕ → List ℕ → List ℕ → Type 0
GrowsBy n old new = (more : List ℕ) × (length more ≡ n) × (new ≡ old ++ more)

-- the bytes held before are still held, and none or more behind them
abbrev pub Grows : List ℕ → List ℕ → Type 0
Grows old new = (more : List ℕ) × (new ≡ old ++ more)
