-- Laws of a read from a list of bytes.
use Rattle.std.proofs.Common.{◌≡◌, ℕ, ◌+◌, ◌-◌, ◌≤◌, List, ◌++◌, length, take, drop, refl, sym, ap, ◌∙◌, arith, append_assoc, length-append, length-take}
use Rattle.std.proofs.lemmas.List.{take_at, take-append-drop, drop-drop, take-append-le, length-take-le, length-drop}
use Rattle.std.proofs.Math.Seq.{take-append-add}
use Rattle.sd_model_outside.specs.Outside.{Content, Unknown, Left, Number, Bytes, Buffer, Rounds, Packets, Datagrams, Ticks, Sessions, Replies, Object, HasRead, put_back, telling}

-- the next n bytes after those that were taken, copied into the start of a buffer
pub take-copied : (bytes rest copied : List ℕ) (taken n : ℕ) → copied ≡ take n (drop taken bytes) → length copied ≡ n → drop taken bytes ≡ take n (copied ++ rest) ++ drop (taken + n) bytes
take-copied bytes rest copied taken n is fits =
    let prefix : take n (copied ++ rest) ≡ take n (drop taken bytes) = take_at copied rest n fits ∙ is in
    sym (rw (prefix, ← drop-drop n taken bytes) (take-append-drop n (drop taken bytes)))

-- bytes that were read into the rest of a buffer stand behind those before
pub take-filled : (buf new rest : List ℕ) (len n : ℕ) → len ≤ length buf → n ≤ length new → take (len + n) (take len buf ++ (new ++ rest)) ≡ take len buf ++ take n new
take-filled buf new rest len n within few =
    let prefix : length (take len buf) ≡ len = length-take-le len buf within in
    ap (λ k. take (k + n) (take len buf ++ (new ++ rest))) (sym prefix)
    ∙ take-append-add (take len buf) (new ++ rest) n
    ∙ ap (λ xs. take len buf ++ xs) (take-append-le n new rest few)

-- two reads one after the other, of all that is seen of the source
pub reads_on : (xs ys : List ℕ) (old mid new : Object) → HasRead xs old mid → HasRead ys mid new → HasRead (xs ++ ys) old new
reads_on xs ys old mid new first second =
    let both : mid.content ≡ put_back ys new.content = ap (λ (o : Object). o.content) second in
    first ∙ ap (λ (content : Content). telling (put_back xs content) mid) both ∙ ap (telling (put_back xs (put_back ys new.content))) second
    ∙ ap (λ (content : Content). telling content new) (joined new.content) where
      joined : (content : Content) → put_back xs (put_back ys content) ≡ put_back (xs ++ ys) content
      joined (Left bytes) = ap Left (sym (append_assoc xs ys bytes))
      joined Unknown = refl
      joined (Number n) = refl
      joined (Bytes bytes) = refl
      joined (Buffer size bytes) = refl
      joined (Rounds rounds open_list) = refl
      joined (Packets packets) = refl
      joined (Datagrams left) = refl
      joined (Ticks left) = refl
      joined (Sessions left back) = refl
      joined (Replies left questions) = refl

-- a buffer whose rest was read anew has its length
pub length-filled : (buf new : List ℕ) (len : ℕ) → len ≤ length buf → length new ≡ length (take (length buf - len) (drop len buf)) → length (take len buf ++ (new ++ drop (len + (length buf - len)) buf)) ≡ length buf
length-filled buf new len within same =
    let back = drop (len + (length buf - len)) buf in
    omega (arith, within, same, length-append (take len buf) (new ++ back), length-append new back, length-take len buf, length-drop (len + (length buf - len)) buf, length-take (length buf - len) (drop len buf), length-drop len buf)
