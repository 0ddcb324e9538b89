-- Laws of what objects tell.
use Rattle.std.proofs.Common.{◌≡◌, ℕ, ◌+◌, List, [], ◌∷◌, ◌++◌, length, Some, None, refl, sym, ap, ◌∙◌, arith, append_assoc, length-append, min}
use Rattle.sd_model_outside.specs.Outside.{Content, Unknown, Left, Number, Bytes, Buffer, Rounds, Packets, Datagrams, Ticks, Sessions, Replies, Reads, put_back, appended, last_count}

-- a count that stops at its end, after two rises
min-add-min : (n a b : ℕ) → min (min (n + a) last_count + b) last_count ≡ min (n + (a + b)) last_count
min-add-min n a b = omega arith

-- two writes one after the other are one write
pub appended-appended : (w : Content) (xs ys : List ℕ) → appended (appended w xs) ys ≡ appended w (xs ++ ys)
appended-appended Unknown xs ys = refl
appended-appended (Left bytes) xs ys = refl
appended-appended (Number n) xs ys = ap Number (rw length-append (min-add-min n (length xs) (length ys)))
appended-appended (Bytes zs) xs ys = ap Bytes (append_assoc zs xs ys)
appended-appended (Buffer size zs) xs ys = ap (Buffer size) (append_assoc zs xs ys)
appended-appended (Rounds rounds (Some zs)) xs ys = ap (λ bytes. Rounds rounds (Some bytes)) (append_assoc zs xs ys)
appended-appended (Rounds rounds None) [] ys = refl
appended-appended (Rounds rounds None) (x ∷ xs) ys = refl
appended-appended (Packets packets) xs ys = refl
appended-appended (Datagrams left) xs ys = refl
appended-appended (Ticks left) xs ys = refl
appended-appended (Sessions left back) xs ys = refl
appended-appended (Replies left questions) xs ys = refl

-- nothing was read
pub Reads-nil : (content : Content) → Reads content [] content
Reads-nil Unknown = refl
Reads-nil (Left bytes) = refl
Reads-nil (Number n) = refl
Reads-nil (Bytes bytes) = refl
Reads-nil (Buffer size bytes) = refl
Reads-nil (Rounds rounds open_list) = refl
Reads-nil (Packets packets) = refl
Reads-nil (Datagrams left) = refl
Reads-nil (Ticks left) = refl
Reads-nil (Sessions left back) = refl
Reads-nil (Replies left questions) = refl

-- bytes before other bytes before what is left
pub put_back-append : (xs ys : List ℕ) (content : Content) → put_back xs (put_back ys content) ≡ put_back (xs ++ ys) content
put_back-append xs ys Unknown = refl
put_back-append xs ys (Left rest) = ap Left (sym (append_assoc xs ys rest))
put_back-append xs ys (Number n) = refl
put_back-append xs ys (Bytes bytes) = refl
put_back-append xs ys (Buffer size bytes) = refl
put_back-append xs ys (Rounds rounds open_list) = refl
put_back-append xs ys (Packets packets) = refl
put_back-append xs ys (Datagrams left) = refl
put_back-append xs ys (Ticks left) = refl
put_back-append xs ys (Sessions left back) = refl
put_back-append xs ys (Replies left questions) = refl

-- two texts were read one after the other
pub Reads-append : (old mid new : Content) (xs ys : List ℕ) → Reads old xs mid → Reads mid ys new → Reads old (xs ++ ys) new
Reads-append old mid new xs ys first then = first ∙ ap (put_back xs) then ∙ put_back-append xs ys new
