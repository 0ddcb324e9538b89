-- The rule of a value behind a turn.
-- Word 0 is the turn: 0 where it is free, else 1 more than the number of the seat that has it. Slot 0 is the value.
use Rattle.std.specs.Prelude.{◌≡◌, ◌≢◌, ◌⊎◌, ℕ, ◌+◌, true, false, List, [], ◌∷◌, map, Some}
use mathlib.Core.Option.{none, some}
use lib.ListN.{get_elem?}
use Rattle.atomic_table.specs.Table.{State, Me, Step}
use Rattle.sd_turn.specs.declared.view.Account.{Account}
use Rattle.sd_turn.specs.declared.view.View.{View}
use Rattle.sd_turn.specs.Lists.{total, Each, span}
use Rattle.sd_turn.specs.Views.{account, first_account, holding, numbers_in}

-- What is behind a turn. The whole is a list that the value stands for, as its numbers or its history, and each seat's own part of it is a list too
pub record Protocol (S E F : Type 0) : Type 1 where
  -- the fixed part of a value
  pub fixed : S → F
  -- the value stands for the whole
  pub stands : S → List E → Type 0
  -- what holds of each whole, for a fixed part and a count of seats
  pub sound : F → ℕ → List E → Type 0
  -- the words behind the turn word
  pub words : List E → List ℕ
  -- what an account tells is true of the whole
  pub fits : List E → Account E → Type 0
  -- the whole has nothing of a number that no seat has yet
  pub unused : List E → ℕ → Type 0
  -- how much a list has of the kind with this number: the seats' own parts add up to the whole
  pub amount : ℕ → List E → ℕ

module _ {S E F : Type 0} (b : Protocol S E F) where
  abbrev pub Fits : List E → View E F → Type 0
  Fits whole v = Each (b.fits whole) v.accounts × Each (b.unused whole) v.spare

  abbrev pub amount_at : ℕ → View E F → ℕ
  amount_at k v = total (λ (a : Account E). b.amount k a.own) v.accounts

  -- a value that stands for the whole is at home, and no seat has the turn
  abbrev pub Home : F → List E → State S (View E F) → Type 0
  Home f whole s =
      (s.words ≡ 0 ∷ b.words whole)
      × ((y : S) × (s.homes ≡ some y ∷ []) × b.stands y whole × (b.fixed y ≡ f))
      × ((id : ℕ) (v : View E F) → get_elem? s.views id ≡ some v → v.turn ≡ false)

  -- one seat has the turn with the value, and has seen the whole
  abbrev pub Away : List E → State S (View E F) → Type 0
  Away whole s =
      (id : ℕ) × (v : View E F) × (a : Account E)
      × (get_elem? s.views id ≡ some v) × (v.turn ≡ true) × (v.accounts ≡ a ∷ []) × (a.seen ≡ whole)
      × (s.words ≡ (a.number + 1) ∷ b.words whole) × (s.homes ≡ none ∷ [])
      × ((j : ℕ) (u : View E F) → j ≢ id → get_elem? s.views j ≡ some u → u.turn ≡ false)

  -- the rule: a whole is behind the turn, which one seat has or none; the seats' own parts add up to it; what each seat tells is true of it; and each number below the count stands just once over all views, which is said of every way to weigh numbers
  pub record Kept (f : F) (count : ℕ) (s : State S (View E F)) : Type 0 where
    pub whole : List E
    pub sound : b.sound f count whole
    pub turn : Home f whole s ⊎ Away whole s
    pub sums : (k : ℕ) → total (amount_at k) s.views ≡ b.amount k whole
    pub fits : (id : ℕ) (v : View E F) → get_elem? s.views id ≡ some v → Fits whole v
    pub numbered : (weigh : ℕ → ℕ) → total (λ v. total weigh (numbers_in v)) s.views ≡ total weigh (span 0 count)

  -- what the terms owe: an empty part has nothing, a seat with a number that was unused tells nothing untrue, and a seat may look at the whole
  pub record Laws : Type 0 where
    pub none : (k : ℕ) → b.amount k [] ≡ 0
    pub begins : (whole : List E) (number : ℕ) → b.unused whole number → b.fits whole (account number [] [])
    pub looks : (whole : List E) (a : Account E) → b.fits whole a → b.fits whole (account a.number a.own whole)

  -- a table may be opened with such a value and such words: the value stands for a whole of which no seat has a part yet
  pub record Opens (count : ℕ) (value : S) (words : List ℕ) : Type 0 where
    pub whole : List E
    pub words_are : words ≡ 0 ∷ b.words whole
    pub stands : b.stands value whole
    pub sound : b.sound (b.fixed value) count whole
    pub none : (k : ℕ) → b.amount k whole ≡ 0
    pub unused : (number : ℕ) → b.unused whole number

  -- what the value that comes out at the end stands for: a whole that these accounts' own parts add up to, and of which each tells the truth; and the accounts have just the numbers below the count
  pub record Closes (f : F) (count : ℕ) (accounts : List (Account E)) (value : S) : Type 0 where
    pub whole : List E
    pub sound : b.sound f count whole
    pub stands : b.stands value whole
    pub fixed : b.fixed value ≡ f
    pub sums : (k : ℕ) → total (λ (a : Account E). b.amount k a.own) accounts ≡ b.amount k whole
    pub fits : Each (b.fits whole) accounts
    pub numbered : (weigh : ℕ → ℕ) → total weigh (map (λ (a : Account E). a.number) accounts) ≡ total weigh (span 0 count)

  -- a seat's own part and the whole grow alike, and what the other seats tell stays true
  pub record Grows (f : F) (count number : ℕ) (own whole own' whole' : List E) : Type 0 where
    pub sound : b.sound f count whole → b.sound f count whole'
    pub mine : b.fits whole (account number own whole) → b.fits whole' (account number own' whole')
    pub amounts : (k : ℕ) → b.amount k own' + b.amount k whole ≡ b.amount k own + b.amount k whole'
    pub others : (a : Account E) → a.number ≢ number → b.fits whole a → b.fits whole' a
    pub unused : (n : ℕ) → n ≢ number → b.unused whole n → b.unused whole' n

  -- the seat has taken the turn with a value that stands for the whole, of which it told the truth
  abbrev pub Taken : View E F → Me S (View E F) → Type 0
  Taken v m =
      (y : S) × (whole : List E)
      × (m ≡ (holding v whole, (0, y) ∷ [])) × b.stands y whole × (v.fixed ≡ Some (b.fixed y))
      × b.fits whole (first_account v.accounts)

  -- the turn was free and is taken, or nothing happened
  abbrev pub took : Step S → Me S (View E F) → ℕ → Me S (View E F) → Type 0
  took st m found m' = (found ≡ 0 → Taken m.0 m') × (found ≢ 0 → m' ≡ m)
