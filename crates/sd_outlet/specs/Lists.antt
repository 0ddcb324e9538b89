-- The lists that flushes leave to a backend, where it tells them.
use Rattle.std.specs.Prelude.{◌≡◌, ◌⊎◌, ℕ, ◌≤◌, Bool, true, false, if◌then◌else◌, List, [], ◌∷◌, ◌++◌, length, take, Some, Option, None}
use Rattle.sd_model_outside.specs.Outside.{BackendText, Content, Rounds, lists_of}
use Rattle.sd_model_outside.specs.Uses.{Delivery, Fault, Mark, NotUsed, Written}

-- the lists that a backend tells, the open one last
abbrev pub content_lists : Content → Option (List BackendText)
content_lists (Rounds rounds open_list) = Some (lists_of rounds open_list)
content_lists content = None

-- whether a mark says that the whole text was written
abbrev pub is_written : Mark → Bool
is_written NotUsed = false
is_written Written = true
is_written Fault = false

-- the list that a whole text is, begun and ended
abbrev pub whole_list : List ℕ → BackendText
whole_list text = record { bytes = text; is_ended = true }

-- the lists that a flush leaves to a backend which tells its lists: its whole text; none; a prefix of it that isn't ended,
-- or none
abbrev pub LeavesLists : Mark → List ℕ → List BackendText → Type 0
LeavesLists Written text lists = lists ≡ whole_list text ∷ []
LeavesLists NotUsed text lists = lists ≡ []
LeavesLists Fault text lists = (lists ≡ []) ⊎ ((n : ℕ) × (n ≤ length text) × (lists ≡ record { bytes = take n text; is_ended = false } ∷ []))

-- the lists that flushes leave, one after another
abbrev pub LeaveLists : List Delivery → List BackendText → Type 0
LeaveLists [] lists = lists ≡ []
LeaveLists (d ∷ deliveries) lists =
    (first : List BackendText) × (others : List BackendText) × LeavesLists d.mark d.text first × LeaveLists deliveries others × (lists ≡ first ++ others)

-- a backend has these lists, and behind them those that flushes left
abbrev pub HasLists : List Delivery → List BackendText → Content → Type 0
HasLists deliveries before now =
    (lists : List BackendText) × LeaveLists deliveries lists × (content_lists now ≡ Some (before ++ lists))

-- the texts of the flushes that were written whole
abbrev pub texts_written : List Delivery → List (List ℕ)
texts_written [] = []
texts_written (d ∷ deliveries) = if is_written d.mark then d.text ∷ texts_written deliveries else texts_written deliveries
