-- What a buffer has.
use Rattle.std.specs.Prelude.{ℕ, List}
use Rattle.sd_outlet.specs.declared.buf.Buf.{Buf}

-- its text
abbrev pub text_of : Buf → List ℕ
text_of b = b.bytes.items

-- how many bytes it can hold
abbrev pub size_of : Buf → ℕ
size_of b = b.size
