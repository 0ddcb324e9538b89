-- A part stands at `start` where the rest of the key from there begins with it.
use Rattle.std.proofs.Common.{◌≡◌, ◌≢◌, ℕ, ◌≤◌, List, ◌++◌, length, drop, take, true, false, nat_eq, arith, append_assoc, length-append, refl, sym, ap, ◌∙◌}
use Rattle.std.proofs.lemmas.Bool.Decides.{Decides-eqb}
use Rattle.std.proofs.lemmas.List.{take-append-drop, take_rest, drop_at}
use Rattle.std.proofs.lemmas.Slice.Eq.{starts_is}
use Rattle.std.specs.List.{starts_with}
use Rattle.sd_law_text.specs.Bytes.{HasPart}
use Rattle.sd_key.proofs.part.has_part.Goals as goal

-- the part stands where the rest begins with it
found : (key part : List ℕ) (start : ℕ) → starts_with nat_eq (drop start key) part ≡ true → HasPart key part
found key part start begins =
    let rest = drop (length part) (drop start key) in (
      take start key,
      rest,
      sym (take-append-drop start key)
          ∙ ap (λ xs. take start key ++ xs) ((starts_is Decides-eqb (drop start key) part _ refl).0 begins)
          ∙ sym (append_assoc (take start key) part rest),
    )

-- and nowhere else
passed :
    (key part prefix back : List ℕ) (start : ℕ) → key ≡ prefix ++ part ++ back →
    starts_with nat_eq (drop start key) part ≡ false → start ≢ length prefix
passed key part prefix back start is apart at =
    let split = is ∙ append_assoc prefix part back in
    let begins = (starts_is Decides-eqb (drop start key) part _ refl).1 back
    (ap (drop start) split ∙ drop_at prefix (part ++ back) start (sym at)) in
    cc

pub returns-then-starts_with : goal.returns-then-starts_with
returns-then-starts_with c =
    let begins = rw (take_rest, c.as_slice-bytes.ensures.bytes) at c.starts_with.ensures.value in
    (λ _. found _ _ c.loop-start.start (sym begins ∙ c.if-starts_with.true), λ _. refl)

pub loop-start-preserved : goal.loop-start-preserved
loop-start-preserved c prefix back is =
    let begins = rw (take_rest, c.as_slice-bytes.ensures.bytes) at c.starts_with.ensures.value in
    let apart : c.loop-start.start ≢ length prefix = passed _ _ prefix back _ is (sym begins ∙ c.if-starts_with.false) in
    let below : c.loop-start.start ≤ length prefix = c.loop-start.invariant prefix back is in omega arith

pub returns-else-starts_with : goal.returns-else-starts_with
returns-else-starts_with c =
    let begins = rw (take_rest, c.as_slice-bytes.ensures.bytes) at c.starts_with.ensures.value in (
      λ no. cc,
      λ (prefix, back, is).
          let apart : c.loop-start.start ≢ length prefix = passed _ _ prefix back _ is (sym begins ∙ c.if-starts_with.false) in
          let below : c.loop-start.start ≤ length prefix = c.loop-start.invariant prefix back is in
          let short = simp length-append at (ap length is) in
          absurd (omega (arith, ap length c.as_slice-bytes.ensures.bytes)),
    )
