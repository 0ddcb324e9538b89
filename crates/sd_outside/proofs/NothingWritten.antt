-- A write of nothing.
use Rattle.std.proofs.Common.{◌≡◌, [], Some, None, refl, ap, arith, append-nil}
use Rattle.sd_model_outside.specs.Outside.{Content, Unknown, Left, Number, Bytes, Buffer, Rounds, Packets, Datagrams, Ticks, Sessions, Replies, appended}
use Rattle.sd_outside.specs.Turns.{FitsLastCount}

-- a write of nothing
pub appended-nil : (w : Content) → FitsLastCount w → appended w [] ≡ w
appended-nil Unknown fits = refl
appended-nil (Left bytes) fits = refl
appended-nil (Number n) fits = ap Number (omega arith)
appended-nil (Bytes zs) fits = ap Bytes (append-nil zs)
appended-nil (Buffer size zs) fits = ap (Buffer size) (append-nil zs)
appended-nil (Rounds rounds (Some zs)) fits = ap (λ bytes. Rounds rounds (Some bytes)) (append-nil zs)
appended-nil (Rounds rounds None) fits = refl
appended-nil (Packets packets) fits = refl
appended-nil (Datagrams left) fits = refl
appended-nil (Ticks left) fits = refl
appended-nil (Sessions left back) fits = refl
appended-nil (Replies left questions) fits = refl
