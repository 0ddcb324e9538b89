-- A cut of the code, as the definitions have it, and the parts of bytes that are left.
use Rattle.std.specs.Prelude.{ℕ, List, [], Option, Some, None}
use Rattle.sd_model_text.specs.Lists as model
use Rattle.sd_line.specs.declared.cut.Cut.{Cut}

abbrev pub cut_view : Cut → model.Cut
cut_view c = record { part = c.part.now; rest = c.rest.now }

-- the parts between the separators of bytes, where any are left
abbrev pub parts_in : ℕ → Option (List ℕ) → List (List ℕ)
parts_in separator None = []
parts_in separator (Some bytes) = model.split separator bytes
