-- A script has one reading.
use Rattle.std.proofs.Common.{◌≡◌, ◌⊎◌, ℕ, ◌<◌, List, [], ◌∷◌, ◌++◌, length, drop, refl, sym, ap, ◌∙◌, arith, append_assoc, append-nil, inl, inr}
use Rattle.std.specs.List.{AllByRecursion}
use Rattle.sd_model_replay.specs.Script.{ScriptCommand, Packet, Flush, Admin, spelled, end_word, script_text, IsLegal, Executed, Ending, Begins}
use Rattle.sd_law_call.specs.Behind.{BeginsRecord}
use Rattle.sd_model_outside.specs.Outside.{Content, Left}
use Rattle.sd_model_replay.proofs.LineLemmas.{first_byte}
use Rattle.sd_script.proofs.NextLemmas.{one_next}
use Rattle.sd_model_text.proofs.Cuts.{same_parts}

-- no record begins as the end does
pub not_end : (c : ScriptCommand) (r s : List ℕ) → spelled c ++ r ≡ end_word ++ s → ⊥
not_end (Packet who moment datagram) r s same = absurd (omega (arith, first_byte _ _ same))
not_end (Flush ts) r s same = absurd (omega (arith, first_byte _ _ same))
not_end (Admin moment line) r s same = absurd (omega (arith, first_byte _ _ same))

module _ (receivers : ℕ) where
  -- bytes begin with one legal record at most
  pub one_record : (c d : ScriptCommand) (r s : List ℕ) → IsLegal receivers c → IsLegal receivers d → spelled c ++ r ≡ spelled d ++ s → (c ≡ d) × (r ≡ s)
  one_record c d r s a b same =
      let one : Executed c ≡ Executed d = one_next receivers (spelled c ++ r) (Executed c) (Executed d) (Left []) (Left []) (a, (r, refl)) (b, (s, same)) in
      let command : c ≡ d = cc in
      (command, (same_parts (spelled c) r (spelled d) s (ap (λ e. length (spelled e)) command) same).1)

  -- what stands behind some records of a script
  pub record Behind (commands prefix : List ScriptCommand) (bytes left : List ℕ) : Type 0 where
    pub behind : List ScriptCommand
    pub whole : commands ≡ prefix ++ behind
    pub legal : AllByRecursion (IsLegal receivers) behind
    pub stands : left ≡ script_text behind ++ bytes

  -- Records at the start of a script are its first records; or they are all of those that the script is known to have,
  -- and more, so that a record stands behind these.
  pub one_script : (commands prefix : List ScriptCommand) (bytes left : List ℕ) → AllByRecursion (IsLegal receivers) commands → AllByRecursion (IsLegal receivers) prefix
      → script_text commands ++ bytes ≡ script_text prefix ++ left → Behind commands prefix bytes left ⊎ ((length commands < length prefix) × BeginsRecord receivers bytes)
  one_script commands [] bytes left legal other same = inl (record { behind = commands; whole = refl; legal = legal; stands = sym same })
  one_script [] (d ∷ prefix) bytes left legal other same = inr (omega arith, (d, script_text prefix ++ left, other.0, same ∙ append_assoc (spelled d) (script_text prefix) left))
  one_script (c ∷ commands) (d ∷ prefix) bytes left legal other same =
      let one = one_record c d (script_text commands ++ bytes) (script_text prefix ++ left) legal.0 other.0
      (sym (append_assoc (spelled c) (script_text commands) bytes) ∙ same ∙ append_assoc (spelled d) (script_text prefix) left) in
      elim (one_script commands prefix bytes left legal.1 other.1 one.1) [
        | inl h ↦ inl (record { behind = h.behind; whole = ap (λ x. x ∷ commands) one.0 ∙ ap (λ xs. d ∷ xs) h.whole; legal = h.legal; stands = h.stands })
        | inr h ↦ inr (omega (arith, h.0), h.1)
      ]

  -- a script that is legal as far as its end has the records at its start as its first ones
  pub ended_script : (commands prefix : List ScriptCommand) (rest left : List ℕ) → AllByRecursion (IsLegal receivers) commands → AllByRecursion (IsLegal receivers) prefix
      → script_text commands ++ (end_word ++ rest) ≡ script_text prefix ++ left → Behind commands prefix (end_word ++ rest) left
  ended_script commands prefix rest left legal other same =
      elim (one_script commands prefix (end_word ++ rest) left legal other same) [
        | inl h ↦ h
        | inr h ↦ absurd (not_end h.1.0 h.1.1 rest (sym h.1.3))
      ]

  -- and so has one that is cut off by bytes that begin with no legal record
  pub cut_script : (commands prefix : List ScriptCommand) (bytes left : List ℕ) → ¬ BeginsRecord receivers bytes → AllByRecursion (IsLegal receivers) commands → AllByRecursion (IsLegal receivers) prefix
      → script_text commands ++ bytes ≡ script_text prefix ++ left → Behind commands prefix bytes left
  cut_script commands prefix bytes left other legal more same =
      elim (one_script commands prefix bytes left legal more same) [
        | inl h ↦ h
        | inr h ↦ absurd (other h.1)
      ]

  -- all of them are executed where the end stands behind
  pub one_end : (commands : List ScriptCommand) (bytes other : List ℕ) → end_word ++ other ≡ script_text commands ++ bytes → (commands ≡ []) × (bytes ≡ end_word ++ other)
  one_end [] bytes other same = (refl, sym same)
  one_end (c ∷ commands) bytes other same = absurd (not_end c (script_text commands ++ bytes) other (sym (same ∙ append_assoc (spelled c) (script_text commands) bytes)))

  -- a record stands behind, where one is left
  pub begins_record : (c : ScriptCommand) (commands : List ScriptCommand) (bytes : List ℕ) (left : Content) → AllByRecursion (IsLegal receivers) (c ∷ commands) → Begins receivers (Executed c) (script_text (c ∷ commands) ++ bytes) left
  begins_record c commands bytes left legal = (legal.0, (script_text commands ++ bytes, append_assoc (spelled c) (script_text commands) bytes))

  -- a record, or the end, stands behind
  pub begins : (commands : List ScriptCommand) (rest : List ℕ) (left : Content) → AllByRecursion (IsLegal receivers) commands
      → Begins receivers Ending (script_text commands ++ (end_word ++ rest)) left ⊎ ((c : ScriptCommand) × Begins receivers (Executed c) (script_text commands ++ (end_word ++ rest)) left)
  begins [] rest left legal = inl (rest, refl)
  begins (c ∷ commands) rest left legal = inr (c, begins_record c commands (end_word ++ rest) left legal)

  -- two scripts that are legal as far as their ends are one
  pub same_script : (commands others : List ScriptCommand) (rest left : List ℕ) → AllByRecursion (IsLegal receivers) commands → AllByRecursion (IsLegal receivers) others
      → script_text commands ++ (end_word ++ rest) ≡ script_text others ++ (end_word ++ left) → (commands ≡ others) × (rest ≡ left)
  same_script commands others rest left legal other same =
      let h = ended_script commands others rest (end_word ++ left) legal other same in
      let last = one_end h.behind (end_word ++ rest) left h.stands in
      (h.whole ∙ ap (λ cs. others ++ cs) last.0 ∙ append-nil others, ap (drop 2) last.1)
