-- Rows in the order of a reply.
use Rattle.std.specs.Prelude.{◌≢◌, ⊤}
use Rattle.std.specs.List.Sorted.{IsSorted, IsSortedByKey}
use Rattle.std.specs.Ordering.{nat_cmp}
use Rattle.std.specs.Cmp.Lexicographic.{slice_cmp}
use Rattle.sd_model_text.specs.Names.{Set}
use Rattle.sd_model_record.specs.Replies.{Gone, AdminReply, Rows}

-- rows and keys stand in the order of the bytes of their keys, and rows aren't those of sets
abbrev pub IsInOrder : AdminReply → Type 0
IsInOrder (Rows kind rows) = (kind ≢ Set) × IsSortedByKey (λ row. row.key) (slice_cmp nat_cmp) rows
IsInOrder (Gone name keys) = IsSorted (slice_cmp nat_cmp) keys
IsInOrder reply = ⊤
