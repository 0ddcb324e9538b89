-- What the room for a row's values and members ends as, where a `&mut` to them is returned.
use Rattle.std.specs.Prelude.{ℕ, List, length}
use denote.Param.{number}
use Rattle.std.specs.Borrow.{Lends, MutBor, Fml, RattleType, Array, u8, unit}
use Rattle.std.specs.List.{refill}
use Rattle.arrayvec.specs.ArrayVec.{ArrayVec}
use Rattle.arrayvec.specs.contracts.array_vec.ArrayVec.{the_row as vec_row}
use Rattle.sd_decimal.specs.declared.number.Micro.{Micro}
use Rattle.sd_decimal.specs.contracts.number.Micro.{the_row as micro_row}
use Rattle.sd_epoch.specs.Scratch.{Gathered}
use Rattle.sd_epoch.specs.contracts.scratch.Scratch.{the_row}

-- the values end as what was last written through r, as many as before
abbrev pub LendsValues : MutBor Gathered → MutBor (List Micro) → Fml
LendsValues s r =
    Lends the_row (Array micro_row 0) s r (λ values. record s.now { values = refill (length s.now.values) s.now.values values })

-- a member's type, as the logic names it
abbrev pub member_row : RattleType
member_row = vec_row u8 (number 128) unit

-- the same of the members
abbrev pub LendsMembers : MutBor Gathered → MutBor (List (ArrayVec ℕ)) → Fml
LendsMembers s r =
    Lends the_row (Array member_row 0) s r (λ members. record s.now { members = refill (length s.now.members) s.now.members members })
