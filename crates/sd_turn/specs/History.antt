-- A turn with a history: the whole is the list of the entries noted so far, and a seat's own part of it the entries that it made.
use Rattle.std.specs.Prelude.{◌≡◌, ℕ, ◌<◌, true, List, [], ◌∷◌, ◌++◌, Some, refl}
use Rattle.std.proofs.Common.{sym, append-nil}
use Rattle.atomic_table.specs.Table.{Me, Step, rest}
use Rattle.sd_turn.specs.declared.view.Account.{Account}
use Rattle.sd_turn.specs.declared.view.View.{View}
use Rattle.sd_turn.specs.Lists.{Each}
use Rattle.sd_turn.specs.Views.{account, view, own_of, seen_of, released}
use Rattle.sd_turn.specs.Rule.{Protocol, Laws}
use Rattle.sd_turn.specs.Entries.{Begins, entries_by}

-- The history is legal for the fixed part, and its entries have numbers below the count of seats. Each seat has seen a beginning of it, and its own entries are all that the history has by its number. A number that no seat has yet has made none
abbrev pub history_protocol : {S N F : Type 0} → (S → F) → (S → List N → Type 0) → (F → List N → Type 0) → (N → ℕ) → Protocol S N F
history_protocol fixed stands legal who = record {
  fixed = fixed;
  stands = stands;
  sound = λ f count log. legal f log × Each (λ e. who e < count) log;
  words = λ log. [];
  fits = λ log a. Begins a.seen log × (a.own ≡ entries_by who a.number log);
  unused = λ log number. entries_by who number log ≡ [];
  amount = λ k entries. 0;
}

pub history_laws : {S N F : Type 0} (fixed : S → F) (stands : S → List N → Type 0) (legal : F → List N → Type 0) (who : N → ℕ) → Laws (history_protocol fixed stands legal who)
history_laws fixed stands legal who = record {
  none = λ k. refl;
  begins = λ log number none. ((log, refl), sym none);
  looks = λ log a fits. (([], sym (append-nil log)), fits.1);
}

-- the first account has seen these entries more, and made them
abbrev pub add_entries : {N : Type 0} → List (Account N) → List N → List (Account N)
add_entries [] es = []
add_entries (a ∷ accounts) es = account a.number (a.own ++ es) (a.seen ++ es) ∷ accounts

abbrev pub noting : {N F : Type 0} → View N F → List N → View N F
noting v es = view (add_entries v.accounts es) v.spare v.turn v.fixed

-- these entries are noted, and the turn and the value are given back
abbrev pub gave : {S N F : Type 0} → List N → Step S → Me S (View N F) → ℕ → Me S (View N F) → Type 0
gave es st m n m' = m' ≡ (released (noting m.0 es), rest m.1)

-- the seat has the turn with this value
abbrev pub HasTurn : {S N F : Type 0} → F → ℕ → S → Me S (View N F) → Type 0
HasTurn f number y m = m ≡ (view (account number (own_of m.0) (seen_of m.0) ∷ []) [] true (Some f), (0, y) ∷ [])

-- the seat has the turn with a value that stands for the history as it has seen it, with these entries behind it
abbrev pub Holds : {S N F : Type 0} → (S → F) → (S → List N → Type 0) → F → ℕ → List N → Me S (View N F) → Type 0
Holds {S} fixed stands f number es m = (y : S) × HasTurn f number y m × (fixed y ≡ f) × stands y (seen_of m.0 ++ es)
