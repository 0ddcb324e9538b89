-- The rule of a queue of buffers, into which one pass puts and out of which one pass takes.
use Rattle.std.specs.Prelude.{◌≡◌, ℕ, ◌≤◌, Bool, true, false, List, [], ◌∷◌, ◌++◌, map, length}
use mathlib.Core.Option.{some}
use lib.ListN.{get_elem?}
use Rattle.sd_outlet.specs.declared.buf.Buf.{Buf}
use Rattle.sd_outlet.specs.declared.pass_view.PassView.{PassView}
use Rattle.sd_outlet.specs.Buf.{text_of, size_of}

-- a view by its parts
abbrev pub pass_view : Bool → Bool → ℕ → ℕ → List (List ℕ) → List (List ℕ) → PassView
pass_view puts takes size least put taken = record { puts = puts; takes = takes; size = size; least = least; put = put; taken = taken }

-- each of these buffers can hold so many bytes
abbrev pub EachHolds : ℕ → List Buf → Type 0
EachHolds size [] = Unit {0}
EachHolds size (b ∷ bufs) = (size_of b ≡ size) × EachHolds size bufs

-- The one pass that puts knows what was put, and the one that takes knows what was taken and that so many buffers, or more, were put.
abbrev pub Fits : ℕ → ℕ → ℕ → List (List ℕ) → List (List ℕ) → ℕ → PassView → Type 0
Fits writer reader size put taken pass v =
    (v.puts ≡ true → (pass ≡ writer) × (v.put ≡ put) × (v.size ≡ size))
    × (v.takes ≡ true → (pass ≡ reader) × (v.taken ≡ taken) × (v.size ≡ size) × (v.least ≤ length put))

-- The rule: the texts put are those taken, and then those that the queue holds, in order. Each buffer in it has the same size.
pub record InOrder (bufs : List Buf) (views : List PassView) : Type 0 where
  pub writer : ℕ
  pub reader : ℕ
  pub size : ℕ
  pub put : List (List ℕ)
  pub taken : List (List ℕ)
  pub order : put ≡ taken ++ map text_of bufs
  pub sizes : EachHolds size bufs
  pub fits : (pass : ℕ) (v : PassView) → get_elem? views pass ≡ some v → Fits writer reader size put taken pass v

-- what a pass is left with that was joined into another
abbrev pub spent : PassView
spent = pass_view false false 0 0 [] []

-- a push tells that one text more was put
abbrev pub puts_in : PassView → Buf → PassView → Type 0
puts_in v b w = w ≡ pass_view v.puts v.takes v.size v.least (v.put ++ text_of b ∷ []) v.taken

-- a pop tells that one text more was taken, in a buffer of the queue's size
abbrev pub takes_out : PassView → Buf → PassView → Type 0
takes_out v b w = (w ≡ pass_view v.puts v.takes v.size v.least v.put (v.taken ++ text_of b ∷ [])) × (size_of b ≡ v.size)

-- who puts learns that the queue holds what was put last
abbrev pub put_behind : PassView → List Buf → Type 0
put_behind v bufs = (taken : List (List ℕ)) × (v.put ≡ taken ++ map text_of bufs)

-- who takes learns that all texts put and not in the queue were taken
abbrev pub taken_before : PassView → List Buf → Type 0
taken_before v bufs = (put : List (List ℕ)) × (put ≡ v.taken ++ map text_of bufs) × (v.least ≤ length put) × (v.puts ≡ true → v.put ≡ put)
