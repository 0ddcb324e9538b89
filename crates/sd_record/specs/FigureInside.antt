-- A figure in parts, as the definitions have it.
use Rattle.std.specs.Prelude.{ℕ, ◌≤◌, List, [], ◌++◌, length}
use Rattle.sd_model_text.specs.Numbers.{number_text}
use Rattle.sd_model_record.specs.Record as model
use Rattle.sd_plan.specs.Calculated.{class_of}
use Rattle.sd_record.specs.declared.figure_parts.Tail.{Tail}
use Rattle.sd_record.specs.declared.figure_parts.Tail.TheVariants.{Nothing, Threshold, Number}
use Rattle.sd_record.specs.declared.figure_parts.FigureParts.TheInside.{Inside}

-- what stands behind a title
abbrev pub tail_text : Tail → List ℕ
tail_text Nothing = []
tail_text (Threshold threshold) = model.label threshold.0
tail_text (Number number) = model.underlined (number_text number.0)

-- the figure, whose name is the title and what stands behind it
abbrev pub parts_view : Inside → model.Figure
parts_view f = model.figure (class_of f.class) (f.title.now ++ tail_text f.tail) f.value.0

-- a title is short
abbrev pub IsParts : Inside → Type 0
IsParts f = length f.title.now ≤ 17
