-- Places in a list of samples.
use Rattle.std.specs.Prelude.{◌≡◌, ℕ, ◌<◌, ◌≤◌, pos, List, [], map, get_or, vec_capacity, false}
use Rattle.std.specs.List.{AllByRecursion}
use Rattle.std.specs.declared.alloc.Global.{Global}
use Rattle.std.specs.declared.vec.Vec.{Vec}
use Rattle.sd_model_text.specs.Names.{Counter}
use Rattle.sd_model_text.specs.Lines.{Sample}

-- stands for a sample where there is none
abbrev pub no_sample : Sample
no_sample = record { kind = Counter; key = []; value = pos 0; rate = 0; is_signed = false; member = [] }

-- the samples at these places
abbrev pub at_places : List Sample → List ℕ → List Sample
at_places samples places = map (λ place. get_or samples place no_sample) places

-- each place is below a number
abbrev pub AreBelow : ℕ → List ℕ → Type 0
AreBelow n places = AllByRecursion (λ place. place < n) places

-- the places in a list of lists
abbrev pub places_at : List (Vec ℕ Global) → ℕ → List ℕ
places_at lists i = get_or (map (λ list. list.items) lists) i []

-- each list has room for so many places
abbrev pub HaveRoom : ℕ → List (Vec ℕ Global) → Type 0
HaveRoom room lists = AllByRecursion (λ list. room ≤ vec_capacity list) lists

-- none has a place
abbrev pub AreEmpty : List (Vec ℕ Global) → Type 0
AreEmpty lists = (i : ℕ) → places_at lists i ≡ []
