-- The text of rows.
use Rattle.std.specs.Prelude.{ℕ, List, flat_map}
use Rattle.std.specs.List.{concat}
use Rattle.sd_model_record.specs.Record.{Row}

-- the lines of rows one after another, by what lines a row has
abbrev pub rows_text : (Row → List (List ℕ)) → List Row → List ℕ
rows_text lines_of rows = flat_map (λ row. concat (lines_of row)) rows
