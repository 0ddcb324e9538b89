-- Kinds of backends and what the code has for each, as the definitions see them.
use Rattle.std.specs.Prelude.{◌≡◌, ◌⊎◌, Bool, List, [], ◌∷◌}
use Rattle.sd_model_outside.specs.Outside.{Object}
use Rattle.sd_model_outside.specs.Backend as model
use Rattle.sd_outside.specs.declared.backend.Back.{Back}
use Rattle.sd_outside.specs.declared.backends.BackendKind.{BackendKind}
use Rattle.sd_outside.specs.declared.backends.BackendKind.TheVariants.{Graphite, Console}
use Rattle.sd_outside.specs.declared.backends.PerBackend.{PerBackend}

abbrev pub kind_of : BackendKind → model.Backend
kind_of Graphite = model.Graphite
kind_of Console = model.Console

-- the kind of a backend
abbrev pub of_kind : model.Backend → BackendKind
of_kind model.Graphite = Graphite
of_kind model.Console = Console

-- the value of a backend
abbrev pub at : {X : Type 0} → PerBackend X → model.Backend → X
at each model.Graphite = each.graphite
at each model.Console = each.console

-- whether a backend is used
abbrev pub uses : {B : Type 0} → PerBackend (Back B) → model.Backend → Bool
uses backs b = (at backs b).is_used

-- what is seen of a backend
abbrev pub back_of : {B : Type 0} → (B → Object) → PerBackend (Back B) → model.Backend → Object
back_of seen backs b = seen (at backs b).object

-- something was done with what each of these backends has, one after another
abbrev pub Done : {X : Type 0} → (model.Backend → X → X → Type 0) → List model.Backend → (model.Backend → X) → (model.Backend → X) → Type 0
Done does [] old new = new ≡ old
Done {X} does (b ∷ behind) old new = (x : X) × does b (old b) x × Done does behind (model.with_one b x old) new

-- it failed at one of them, was done with those before it, and not with those behind it
abbrev pub StopsAt : {X : Type 0} → (does fails : model.Backend → X → X → Type 0) → List model.Backend → (model.Backend → X) → (model.Backend → X) → Type 0
StopsAt does fails [] old new = ⊥
StopsAt {X} does fails (b ∷ behind) old new =
    ((x : X) × fails b (old b) x × (new ≡ model.with_one b x old))
    ⊎ ((x : X) × does b (old b) x × StopsAt does fails behind (model.with_one b x old) new)
