-- What all receivers were answered.
use Rattle.std.proofs.Common.{◌≡◌, ℕ, zero, suc, ◌<◌, List, [], ◌∷◌, ◌++◌, length, map, take, All, refl, sym, ap, ◌∙◌, subst, arith}
use Rattle.std.specs.Prelude.{slice_index_or}
use Rattle.std.proofs.lemmas.List.Elements.{All-nil, All-cons, All-head, All-tail}
use Rattle.sd_live.specs.declared.pass.UpPass.{UpPass}
use Rattle.sd_live.specs.declared.up_cell.UpCell.{UpCell}
use Rattle.sd_live.specs.Live.{seen, IsPassOf, IsReceiverOf, nodes_of}
use Rattle.sd_model_live.specs.Proxy.{all_of}
use Rattle.sd_live.specs.Looks.{Begins, HaveAnswered}
use Rattle.sd_live.proofs.LookLemmas.{answered_on}
use Rattle.sd_cases_outlets.specs.declared.looker.Looker.{Looker}
use Rattle.sd_cases_outlets.specs.Lookers.{HasLooked, IsNew, HasSeen}

-- their passes are the cell's
pub passes_fit : (cell : UpCell) (lookers : List Looker) → All (HasSeen cell) lookers → All (IsPassOf cell) (map (λ (l : Looker). l.pass) lookers)
passes_fit cell [] all = All-nil (IsPassOf cell)
passes_fit cell (l ∷ lookers) all = All-cons (IsPassOf cell) l.pass _ (All-head (HasSeen cell) l lookers all).pass (passes_fit cell lookers (All-tail (HasSeen cell) l lookers all))

-- what each was answered, in the history of all sets
module _ {X : Type 0} (items : X → List ℕ) where
  pub all_answered : (cell : UpCell) (answers : Looker → X) → ((l : Looker) → items (answers l) ≡ l.answers.items) → (history : List ℕ) (lookers : List Looker) → All (HasSeen cell) lookers → All (λ p. Begins (seen p) history) (map (λ (l : Looker). l.pass) lookers)
      → All (λ x. HaveAnswered (all_of (nodes_of cell) ∷ []) history (items x)) (map answers lookers)
  all_answered cell answers same history [] all begin = All-nil (λ x. HaveAnswered (all_of (nodes_of cell) ∷ []) history (items x))
  all_answered cell answers same history (l ∷ lookers) all begin =
      let P : UpPass → Type 0 = λ p. Begins (seen p) history in
      All-cons (λ x. HaveAnswered (all_of (nodes_of cell) ∷ []) history (items x)) (answers l) (map answers lookers)
      (subst (HaveAnswered (all_of (nodes_of cell) ∷ []) history) (sym (same l)) (answered_on _ (seen l.pass) history l.answers.items (All-head P l.pass _ begin) (All-head (HasSeen cell) l lookers all).answers))
      (all_answered cell answers same history lookers (All-tail (HasSeen cell) l lookers all) (All-tail P l.pass _ begin))

  pub run_answers : (cell : UpCell) (answers_of : Looker → X) → ((l : Looker) → items (answers_of l) ≡ l.answers.items) → (nodes : ℕ) (sets history : List ℕ) (lookers : List Looker) (passes : List UpPass) (answers : List X)
      → nodes_of cell ≡ nodes → history ≡ all_of nodes ∷ sets → passes ≡ map (λ (l : Looker). l.pass) lookers → answers ≡ map answers_of lookers → All (HasSeen cell) lookers → All (λ p. Begins (seen p) history) passes
      → All (λ x. HaveAnswered (all_of nodes ∷ []) (all_of nodes ∷ sets) (items x)) answers
  run_answers cell answers_of same nodes sets history lookers passes answers opened published passes_are answers_are all begin =
      subst (λ (z : ℕ × List ℕ × List X). All (λ x. HaveAnswered (all_of z.0 ∷ []) z.1 (items x)) z.2) (λ i. (opened i, published i, sym answers_are i))
      (all_answered cell answers_of same history lookers all (subst (All (λ p. Begins (seen p) history)) passes_are begin))

-- receivers of new passes
pub all_new : (cell : UpCell) (nodes : ℕ) → nodes_of cell ≡ nodes → (lookers : List Looker) → All (λ p. IsReceiverOf cell p × (seen p ≡ all_of nodes ∷ [])) (map (λ (l : Looker). l.pass) lookers) → All (λ (l : Looker). l.answers.items ≡ []) lookers → All (IsNew cell) lookers
all_new cell nodes opened [] fresh none = All-nil (IsNew cell)
all_new cell nodes opened (l ∷ lookers) fresh none =
    let P : UpPass → Type 0 = λ p. IsReceiverOf cell p × (seen p ≡ all_of nodes ∷ []) in
    let Q : Looker → Type 0 = λ l. l.answers.items ≡ [] in
    let mine = All-head P l.pass (map (λ (l : Looker). l.pass) lookers) fresh in
    All-cons (IsNew cell) l lookers (mine.0.0, mine.1 ∙ ap (λ n. all_of n ∷ []) (sym opened), All-head Q l lookers none)
    (all_new cell nodes opened lookers (All-tail P l.pass (map (λ (l : Looker). l.pass) lookers) fresh) (All-tail Q l lookers none))

-- a list that was lent as a slice
pub take_prefix : {A : Type 0} (xs ys : List A) (n : ℕ) → length xs ≡ n → take n (xs ++ ys) ≡ xs
take_prefix [] [] zero e = refl
take_prefix [] (y ∷ ys) zero e = refl
take_prefix [] ys (suc n) e = absurd (omega arith)
take_prefix (x ∷ xs) ys zero e = absurd (omega arith)
take_prefix (x ∷ xs) ys (suc n) e = ap (λ l. x ∷ l) (take_prefix xs ys n (omega arith))

-- receivers that looked, each since it was new
pub all_seen : (cell : UpCell) (olds news : List Looker) → length news ≡ length olds → All (IsNew cell) olds → ((i : ℕ) (d : Looker) → i < length olds → HasLooked cell (slice_index_or olds i d) (slice_index_or news i d)) → All (HasSeen cell) news
all_seen cell olds news len fresh each = λ k d lt.
    let inside : k < length olds = omega arith in
    let h = each k d inside in
    record { pass = h.pass; answers = subst (λ s. HaveAnswered s (seen (slice_index_or news k d).pass) (slice_index_or news k d).answers.items) (fresh k d inside).1 h.answers }
