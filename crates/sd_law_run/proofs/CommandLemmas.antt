-- What the commands that were read have.
use Rattle.std.proofs.Common.{◌≡◌, ℕ, suc, ◌≤◌, Bool, true, false, cond, List, [], ◌∷◌, length, refl, ap, subst, arith, Ok, Err}
use Rattle.std.specs.Prelude.{Result, nat_le}
use Rattle.std.specs.List.{All}
use Rattle.std.proofs.lemmas.Grind.{common_steps}
use Rattle.std.proofs.lemmas.Bool.Decides.{nat_tests}
use Rattle.sd_model_text.specs.Names.{Kind}
use Rattle.sd_model_record.specs.Admin.{Command, AdminFault, TooLong, Delete, words, command, command_named, command_of_words, longest_line}
use Rattle.sd_admin.specs.Words.{IsWord}
use Rattle.sd_admin.proofs.WordLemmas.{words_are}

-- the names of a deletion are the words behind the first
names_behind : (word : List ℕ) (rest : List (List ℕ)) (kind : Kind) (names : List (List ℕ)) → command_named word rest ≡ Ok (Delete kind names) → rest ≡ names
names_behind word [] kind names h = absurd (grind (arith, common_steps))
names_behind word (name ∷ rest) kind names h = grind (arith, common_steps)

words_behind : (parts : List (List ℕ)) (kind : Kind) (names : List (List ℕ)) → command_of_words parts ≡ Ok (Delete kind names) → (word : List ℕ) × (parts ≡ word ∷ names)
words_behind [] kind names h = absurd (cc)
words_behind (word ∷ rest) kind names h = (word, ap (λ ws. word ∷ ws) (names_behind word rest kind names h))

-- what a line that isn't too long has
short_line : (b : Bool) (r : Result Command AdminFault) (command : Command) → cond b r (Err TooLong) ≡ Ok command → (b ≡ true) × (r ≡ Ok command)
short_line true r command h = (refl, h)
short_line false r command h = absurd (cc)

-- the names of a deletion that was read are no longer than a line may be
pub names_read-short : (line : List ℕ) (kind : Kind) (names : List (List ℕ)) → command line ≡ Ok (Delete kind names) → All (λ name. length name ≤ longest_line) names
names_read-short line kind names h =
    let read = short_line (nat_le (length line) longest_line) (command_of_words (words line)) (Delete kind names) h in
    let parts = words_behind (words line) kind names read.1 in
    let all = subst (λ ws. All (λ word. IsWord word × (length word ≤ length line)) ws) parts.1 (words_are line) in
    let few : length line ≤ longest_line = grind (arith, nat_tests) in
    λ k d inside. let at = all (suc k) d (omega (arith, inside)) in omega (arith, at.1, few)
