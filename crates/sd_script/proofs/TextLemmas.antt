-- The text of the made script, packet by packet.
use Rattle.std.proofs.Common.{◌≡◌, ◌≢◌, ℕ, zero, suc, ◌+◌, ◌-◌, ◌/◌, ◌%◌, ◌<◌, ◌≤◌, List, [], ◌∷◌, ◌++◌, refl, sym, ap, ◌∙◌, arith, append_assoc, append-nil}
use Rattle.std.specs.Prelude.{flat_map}
use Rattle.std.specs.List.{range_with_len}
use Rattle.std.proofs.lemmas.Grind.{flat_map-append}
use Rattle.sd_model_replay.specs.Script.{ScriptCommand, Packet, Flush, Admin, script_text, spelled, end_word}
use Rattle.sd_model_replay.specs.MadeScript.{made_datagram, made_moment, made_packet, flush_behind, made_commands}
use Rattle.sd_script.specs.Texts.{end_behind, text_at, text_from}
use Rattle.sd_model_replay.proofs.Short.{made_script}

-- the text from a packet on, with the packet's own at its start
pub text_from_next : (n j : ℕ) → j < n → text_from n j ≡ text_at n j ++ text_from n (j + 1)
unfolding text_from
text_from_next n j left =
    let one : n - j ≡ suc (n - (j + 1)) = omega arith in ap (λ k. flat_map (text_at n) (range_with_len j k)) one

pub text_from_end : (n j : ℕ) → n ≤ j → text_from n j ≡ []
unfolding text_from
text_from_end n j end =
    let none : n - j ≡ 0 = omega arith in ap (λ k. flat_map (text_at n) (range_with_len j k)) none

spelled_some : (command : ScriptCommand) (xs ys : List ℕ) → (spelled command ++ xs) ++ ys ≢ []
spelled_some (Packet who moment datagram) xs ys empty = cc
spelled_some (Flush ts) xs ys empty = cc
spelled_some (Admin moment line) xs ys empty = cc

pub text_at_some : (n j : ℕ) → text_at n j ≢ []
unfolding text_at
text_at_some n j = spelled_some (made_packet j) (script_text (flush_behind n j)) (end_behind n j)

-- the records of packet j
abbrev records_at : ℕ → ℕ → List ScriptCommand
records_at n j = made_packet j ∷ flush_behind n j

text_at_is : (n j : ℕ) → text_at n j ≡ script_text (records_at n j) ++ end_behind n j
unfolding text_at
text_at_is n j = refl

end_behind_last : (n j : ℕ) → j + 1 ≡ n → end_behind n j ≡ end_word
end_behind_last n j last = grind (arith)

end_behind_other : (n j : ℕ) → j + 1 < n → end_behind n j ≡ []
end_behind_other n j other = grind (arith)

-- the text of the last packet, and that of another
text_at_last : (n j : ℕ) → j + 1 ≡ n → text_at n j ≡ script_text (records_at n j) ++ end_word
text_at_last n j last = text_at_is n j ∙ ap (λ xs. script_text (records_at n j) ++ xs) (end_behind_last n j last)

text_at_other : (n j : ℕ) → j + 1 < n → text_at n j ≡ script_text (records_at n j)
text_at_other n j other =
    text_at_is n j ∙ ap (λ xs. script_text (records_at n j) ++ xs) (end_behind_other n j other) ∙ append-nil _

-- the text of k + 1 packets from j on, the last of which is the last of all
texts_from : (n j k : ℕ) → j + (k + 1) ≡ n → flat_map (text_at n) (range_with_len j (suc k)) ≡ script_text (flat_map (records_at n) (range_with_len j (suc k))) ++ end_word
texts_from n j zero last =
    append-nil (text_at n j) ∙ text_at_last n j (omega arith)
    ∙ ap (λ records. script_text records ++ end_word) (sym (append-nil (records_at n j)))
texts_from n j (suc k) last =
    let records = flat_map (records_at n) (range_with_len (j + 1) (suc k)) in
    ap (λ xs. xs ++ flat_map (text_at n) (range_with_len (j + 1) (suc k))) (text_at_other n j (omega arith))
    ∙ ap (λ xs. script_text (records_at n j) ++ xs) (texts_from n (j + 1) k (omega arith))
    ∙ sym (append_assoc (script_text (records_at n j)) (script_text records) end_word)
    ∙ ap (λ xs. xs ++ end_word) (sym (flat_map-append spelled (records_at n j) records))

pub text_from_start : (n : ℕ) → 0 < n → text_from n 0 ≡ made_script n
unfolding text_from made_commands
text_from_start n some =
    let all : n - 0 ≡ suc (n - 1) = omega arith in
    let one : n ≡ suc (n - 1) = omega arith in
    ap (λ k. flat_map (text_at n) (range_with_len 0 k)) all
    ∙ texts_from n 0 (n - 1) (omega arith)
    ∙ ap (λ k. script_text (flat_map (records_at n) (range_with_len 0 k)) ++ end_word) (sym one)

-- What is appended for packet j of n: its record, the flush behind it, and the word that ends the script.
pub record IsAppended (n j : ℕ) (datagram before packet flush end : List ℕ) : Type 0 where
  pub empty : before ≡ []
  pub datagram_is : datagram ≡ made_datagram j
  pub packet_is : packet ≡ before ++ spelled (Packet (j % 2) (made_moment (j / 1000)) datagram)
  pub flush_is : flush ≡ packet ++ script_text (flush_behind n j)
  pub end_is : end ≡ flush ++ end_behind n j

pub text_appended : (n j : ℕ) (datagram before packet flush end : List ℕ) → IsAppended n j datagram before packet flush end → end ≡ text_at n j
unfolding text_at made_packet
text_appended n j datagram before packet flush end is =
    let first : packet ≡ spelled (made_packet j) =
    is.packet_is ∙ ap (λ xs. xs ++ spelled (Packet (j % 2) (made_moment (j / 1000)) datagram)) is.empty
    ∙ ap (λ xs. spelled (Packet (j % 2) (made_moment (j / 1000)) xs)) is.datagram_is in
    is.end_is ∙ ap (λ xs. xs ++ end_behind n j) is.flush_is
    ∙ ap (λ xs. (xs ++ script_text (flush_behind n j)) ++ end_behind n j) first
