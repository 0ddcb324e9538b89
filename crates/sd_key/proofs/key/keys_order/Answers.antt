-- Lists of bytes that compare as equal are equal, and each compares as equal to itself.
use Rattle.std.proofs.Common.{sym, ap, ◌∙◌}
use Rattle.std.proofs.lemmas.Cmp.{tied_itself, nat_list_cmp_total}
use Rattle.std.proofs.lemmas.Map.Lookups.{exact_bytes}
use Rattle.std.specs.Ordering.{nat_cmp}
use Rattle.std.specs.Cmp.Lexicographic.{slice_cmp}
use Rattle.sd_key.proofs.key.keys_order.Goals as goal

pub returns-clause-equal : goal.returns-clause-equal
returns-clause-equal c a b = (exact_bytes a b, λ same. ap (slice_cmp nat_cmp a) (sym same) ∙ tied_itself nat_list_cmp_total a)
