-- What a pass knows of the sets published, and how a step changes it.
use Rattle.std.specs.Prelude.{ℕ, Bool, true, false, List, [], ◌∷◌}
use Rattle.sd_live.specs.declared.rule.SetView.{SetView}

abbrev pub set_view : Bool → List ℕ → List (List ℕ) → List ℕ → SetView
set_view publishes published joined looks = record { publishes = publishes; published = published; joined = joined; looks = looks }

-- the first pass publishes, nothing is published yet, and it hasn't looked
abbrev pub first_view : SetView
first_view = set_view true [] [] []

-- a pass that was told what another has seen, and hasn't looked
abbrev pub informed : SetView → SetView
informed v = set_view false v.published [] []

-- a pass of which all was moved away
abbrev pub nothing : SetView
nothing = set_view false [] [] []

-- a pass that keeps what another had seen
abbrev pub gathered : SetView → SetView → SetView
gathered v w = set_view v.publishes v.published (w.published ∷ v.joined) v.looks
