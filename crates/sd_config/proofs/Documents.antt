-- The table that bytes are.
use Rattle.std.proofs.Common.{◌≡◌, ℕ, List, Some, None, Ok, Err, inl, inr}
use Rattle.std.proofs.lemmas.Bool.{cases_Bool}
use Rattle.std.proofs.lemmas.Str.{IsUtf8-from_is_utf8, is_utf8-from_IsUtf8}
use Rattle.std.specs.Str.{IsUtf8, is_utf8}
use Rattle.toml.specs.Data.{Members}
use Rattle.toml.specs.Parse.{parse_document}
use Rattle.sd_model_settings.specs.Settings.{document, NotToml}

pub document_taken : (bytes : List ℕ) (ms : Members) → IsUtf8 bytes → parse_document bytes ≡ Some ms → document bytes ≡ Ok ms
unfolding document
document_taken bytes ms utf8 parsed = rw (is_utf8-from_IsUtf8 bytes utf8, parsed)

pub document_refused : (bytes : List ℕ) → (IsUtf8 bytes → parse_document bytes ≡ None) → document bytes ≡ Err NotToml
unfolding document
document_refused bytes refused =
    elim (cases_Bool (is_utf8 bytes)) [
      | inl utf8 ↦ rw (utf8, refused (IsUtf8-from_is_utf8 bytes utf8))
      | inr other ↦ rw other
    ]
