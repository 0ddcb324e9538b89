-- The backends that records are written to, and something that each has.
use Rattle.std.specs.Prelude.{ℕ, List, [], ◌∷◌, ◌==◌, if◌then◌else◌, codes}

-- a backend
pub data Backend : Type 0 where
  Graphite Console : Backend

-- all, in the order in which they are opened, and in which a record is given to them
abbrev pub backends : List Backend
backends = Graphite ∷ Console ∷ []

-- the number of a backend among them
abbrev pub backend_number : Backend → ℕ
backend_number Graphite = 0
backend_number Console = 1

-- its name
abbrev pub backend_name : Backend → List ℕ
backend_name Graphite = codes "graphite"
backend_name Console = codes "console"

-- One of something for each backend.
pub record PerBackend (X : Type 0) : Type 0 where
  pub graphite : X
  pub console : X

-- that of a backend
abbrev pub at_backend : {X : Type 0} → PerBackend X → Backend → X
at_backend each Graphite = each.graphite
at_backend each Console = each.console

-- what is made for each
abbrev pub each_of : {X : Type 0} → (Backend → X) → PerBackend X
each_of make = record { graphite = make Graphite; console = make Console }

-- what each has, with this for one of them
abbrev pub with_one : {X : Type 0} → Backend → X → (Backend → X) → Backend → X
with_one b x each c = if backend_number b == backend_number c then x else each c
