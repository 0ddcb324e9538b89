-- Which figures of a timer are sent.
use Rattle.std.proofs.Common.{◌≡◌, List, [], ◌∷◌, refl, ap}
use Rattle.std.specs.Prelude.{filter}
use Rattle.sd_model_settings.specs.Entries.{sends}
use Rattle.sd_model_record.specs.Record.{TimerFigures, Figure, figures_of, sent_figures}

all_pass : (fs : List Figure) → filter (λ f. sends [] f.class) fs ≡ fs
all_pass [] = refl
all_pass (f ∷ fs) = ap (λ gs. f ∷ gs) (all_pass fs)

pub all_sent : (timer : TimerFigures) → sent_figures [] timer ≡ figures_of timer
all_sent timer = all_pass (figures_of timer)
