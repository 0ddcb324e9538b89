-- What a turn of a session makes of the bytes that are left.
use Rattle.std.proofs.Common.{ℕ, ◌<◌, ◌≤◌, length, take, List, arith}
use Rattle.std.proofs.lemmas.List.{length-take}
use Rattle.std.specs.Prelude.{Option, Some, None, IfNone, IfSome}
use Rattle.sd_model_serve.specs.Sessions.{FitsLine, HasNoNewline, too_many}

-- what stands before the first newline fits a line
pub fits_line : (bytes : List ℕ) (n end : ℕ) → n ≤ too_many → end < length (take n bytes) → HasNoNewline (take end (take n bytes)) → FitsLine (take end (take n bytes))
fits_line bytes n end few within no_newline = (no_newline, omega (arith, length-take {A = ℕ}))

pub none_of : {X : Type 0} {P Q : Type 0} (o : Option X) → (P → Q) → IfNone o P → IfNone o Q
none_of None f h = f h
none_of (Some x) f h = h

pub some_of : {X : Type 0} {P Q : X → Type 0} (o : Option X) → ((x : X) → P x → Q x) → IfSome o P → IfSome o Q
some_of None f h = h
some_of (Some x) f h = f x h
