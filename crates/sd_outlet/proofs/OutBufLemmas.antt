-- A text that fits is in its buffer whole.
use Rattle.std.proofs.Common.{◌≡◌, ℕ, ◌<◌, ◌≤◌, ◌⊎◌, List, [], ◌++◌, length, take, ap, ◌∙◌, inl, inr, arith}
use Rattle.std.proofs.lemmas.List.{length-take}
use Rattle.sd_model_outside.specs.Outside.{Object, Content, Buffer, HasFailedBehind, given}
use Rattle.sd_outlet.specs.declared.out_buf.OutBuf.{OutBuf}
use Rattle.sd_outlet.specs.OutBuf.{faults_in, size_in, seen_of, text_in, IsNewBuf}

-- the size that is told
abbrev size_content : Content → ℕ
size_content (Buffer size bytes) = size
size_content content = 0

-- the bytes that are told
abbrev bytes_content : Content → List ℕ
bytes_content (Buffer size bytes) = bytes
bytes_content content = []

-- a write keeps the size, whatever it answered
pub size : (text : List ℕ) (old new : OutBuf) → (seen_of new ≡ given text (seen_of old)) ⊎ HasFailedBehind text (seen_of old) (seen_of new) → size_in new ≡ size_in old
size text old new (inl ok) = ap (λ (o : Object). size_content o.content) ok
size text old new (inr failed) = ap size_content failed.prefix.2

-- a buffer with faults is full
pub full : (b : OutBuf) → 0 < faults_in b → length (text_in b) ≡ size_in b
full b failed = b.full failed

-- a text that fits into a new buffer is there whole, since a write fails only where the buffer is full
pub whole : (text : List ℕ) (old new : OutBuf) → IsNewBuf old → length text ≤ size_in old → (seen_of new ≡ given text (seen_of old)) ⊎ HasFailedBehind text (seen_of old) (seen_of new) → text_in new ≡ text
whole text old new is_new fits (inl ok) = ap (λ (o : Object). bytes_content o.content) ok ∙ ap (λ l. l ++ text) is_new.0
whole text old new is_new fits (inr failed) =
    let n = failed.prefix.0 in
    let content = failed.prefix.2 in
    let same : size_in new ≡ size_in old = ap size_content content in
    let bytes : text_in new ≡ take n text = ap bytes_content content ∙ ap (λ l. l ++ take n text) is_new.0 in
    let is_full : length (text_in new) ≡ size_in new = full new (omega (arith, failed.rose, is_new.1)) in
    let few : length (text_in new) ≤ n = omega (arith, ap length bytes, length-take n text) in
    absurd (omega (arith, is_full, few, same, fits, failed.prefix.1))
