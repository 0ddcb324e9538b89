use Rattle.std.proofs.Common.{◌≡◌, ◌∙◌, ℕ, ◌+◌, ◌-◌, ◌<◌, List, [], ◌∷◌, ◌++◌, length, take, ap, arith, refl, append_assoc}
use Rattle.std.proofs.lemmas.Grind.{take-set_at}
use Rattle.std.proofs.lemmas.Slice.{take-put_mid}
use borrow.Rule.Slice.PartMut.{put_mid, same_len_mid}
use Rattle.sd_proxy.proofs.waiting.put_line.Goals as goal

pub returns-clause-text : goal.returns-clause-text
returns-clause-text c =
    let room = c.args.room.now in
    let at = c.args.at in
    let line = c.args.line.now in
    let end = at + length line in
    let copied = c.copy_from_slice.new.self in
    let after : copied ≡ line = c.copy_from_slice.ensures.after in
    let long : length copied ≡ length line = ap (λ (x : List ℕ). length x) after in
    let below = c.requires in
    let now : List ℕ = put_mid at (end - at) room copied in
    let inside : end < length now = omega (arith, below, long, same_len_mid at (end - at) room copied c.copy_from_slice.ensures.len) in
    take-set_at now end (end + 1) 10 refl inside ∙ ap (λ (x : List ℕ). x ++ 10 ∷ []) (take-put_mid at (end - at) room copied end (omega (arith, long)) (omega (arith, below)))
    ∙ ap (λ (x : List ℕ). (take at room ++ x) ++ 10 ∷ []) after ∙ append_assoc (take at room) line (10 ∷ [])
