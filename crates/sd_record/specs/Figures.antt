-- A figure of the code, as the definitions have it.
use Rattle.sd_model_record.specs.Record as model
use Rattle.sd_plan.specs.Calculated.{class_of}
use Rattle.sd_record.specs.declared.figures.Figure.{Figure}

abbrev pub figure_view : Figure → model.Figure
figure_view f = model.figure (class_of f.class) f.name.items f.value.0
