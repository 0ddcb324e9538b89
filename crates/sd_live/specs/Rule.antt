-- The rule of the cell of sets. Its first word is how many sets were published, and its second is the last of them.
use Rattle.std.specs.Prelude.{◌≡◌, ℕ, true, List, [], ◌∷◌, ◌++◌, length, slice_index, Some}
use Rattle.std.specs.List.{last_or}
use mathlib.Core.Option.{some}
use lib.ListN.{get_elem?}
use Rattle.sd_live.specs.Looks.{Begins}
use Rattle.sd_live.specs.declared.rule.SetView.{SetView}
use Rattle.sd_live.specs.Views.{set_view}

-- a history goes on from each of these
abbrev pub EachBegins : List (List ℕ) → List ℕ → Type 0
EachBegins [] history = Unit {0}
EachBegins (seen ∷ more) history = Begins seen history × EachBegins more history

-- What a pass knows is true of the sets published: they go on from those that it has seen, and from those that each pass had seen
-- that was joined into it; and it has seen all where it publishes.
pub record Fits (published : List ℕ) (v : SetView) : Type 0 where
  pub seen : Begins v.published published
  pub joined : EachBegins v.joined published
  pub own : v.publishes ≡ true → v.published ≡ published

-- The words tell the sets published, what each pass knows of them is true, and at most one pass publishes.
pub record InStep (words : List ℕ) (views : List SetView) : Type 0 where
  pub published : List ℕ
  pub count : slice_index words 0 ≡ length published
  pub newest : last_or (Some (slice_index words 1)) published ≡ Some (slice_index words 1)
  pub fits : (id : ℕ) (v : SetView) → get_elem? views id ≡ some v → Fits published v
  pub checker : ℕ
  pub alone : (id : ℕ) (v : SetView) → get_elem? views id ≡ some v → v.publishes ≡ true → id ≡ checker

-- The sets published so far were seen, which are those that were seen before where the pass publishes; they go on from what each
-- pass had seen that was joined into it; and the pass looked once more.
pub record Looked (v : SetView) (before after : List ℕ) (w : SetView) : Type 0 where
  pub is : w ≡ set_view v.publishes w.published v.joined (v.looks ++ length w.published ∷ [])
  pub seen : Begins v.published w.published
  pub own : v.publishes ≡ true → w.published ≡ v.published
  pub count : slice_index before 0 ≡ length w.published
  pub newest : last_or (Some (slice_index before 1)) w.published ≡ Some (slice_index before 1)
  pub joined : EachBegins v.joined w.published

-- the set that is written was published, behind those that were seen
abbrev pub Published : SetView → List ℕ → List ℕ → SetView → Type 0
Published v before after w = w ≡ set_view v.publishes (v.published ++ slice_index after 1 ∷ []) v.joined v.looks
