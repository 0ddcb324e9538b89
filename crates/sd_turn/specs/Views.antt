-- What a seat knows, and how a step changes it.
use Rattle.std.specs.Prelude.{◌≡◌, ℕ, ◌-◌, Bool, true, false, List, [], ◌∷◌, ◌++◌, map, Option, Some, None}
use Rattle.sd_turn.specs.declared.view.Account.{Account}
use Rattle.sd_turn.specs.declared.view.View.{View}
use Rattle.sd_turn.specs.Lists.{span}

-- the first of some numbers, and those behind it
abbrev pub first_number : List ℕ → ℕ
first_number [] = 0
first_number (n ∷ ns) = n

abbrev pub further_numbers : List ℕ → List ℕ
further_numbers [] = []
further_numbers (n ∷ ns) = ns

module _ {E : Type 0} where
  abbrev pub account : ℕ → List E → List E → Account E
  account number own seen = record { number = number; own = own; seen = seen }

  abbrev pub first_account : List (Account E) → Account E
  first_account [] = account 0 [] []
  first_account (a ∷ accounts) = a

  -- the first account has seen this whole
  abbrev pub look : List (Account E) → List E → List (Account E)
  look [] whole = []
  look (a ∷ accounts) whole = account a.number a.own whole ∷ accounts

module _ {E F : Type 0} where
  abbrev pub view : List (Account E) → List ℕ → Bool → Option F → View E F
  view accounts spare turn fixed = record { accounts = accounts; spare = spare; turn = turn; fixed = fixed }

  -- the first seat: the last number is its own, and it may give away the others from `next` on
  abbrev pub giver : F → ℕ → ℕ → View E F
  giver f last next = view (account last [] [] ∷ []) (span next (last - next)) false (Some f)

  abbrev pub first_view : F → ℕ → View E F
  first_view f count = giver f (count - 1) 0

  -- a seat that has added and seen nothing
  abbrev pub newcomer : F → ℕ → View E F
  newcomer f number = view (account number [] [] ∷ []) [] false (Some f)

  -- a seat that was joined into another has nothing left
  abbrev pub spent : View E F
  spent = view [] [] false None

  -- a split: what the parent keeps, and what the child gets
  abbrev pub kept_back : View E F → View E F
  kept_back v = view v.accounts (further_numbers v.spare) v.turn v.fixed

  abbrev pub given_away : View E F → View E F
  given_away v = view (account (first_number v.spare) [] [] ∷ []) [] false v.fixed

  -- a join: the keeper has the other's accounts and numbers too
  abbrev pub both : View E F → View E F → View E F
  both v w = view (w.accounts ++ v.accounts) (w.spare ++ v.spare) v.turn v.fixed

  -- the seat has the turn, and has seen the whole as it found it
  abbrev pub holding : View E F → List E → View E F
  holding v whole = view (look v.accounts whole) v.spare true v.fixed

  -- the seat hasn't the turn
  abbrev pub released : View E F → View E F
  released v = view v.accounts v.spare false v.fixed

  -- every number in a view: its own, those joined into it, and those that it may give away
  abbrev pub numbers_in : View E F → List ℕ
  numbers_in v = map (λ (a : Account E). a.number) v.accounts ++ v.spare

  abbrev pub own_of : View E F → List E
  own_of v = (first_account v.accounts).own

  abbrev pub seen_of : View E F → List E
  seen_of v = (first_account v.accounts).seen

  -- a seat that stands by itself, outside a turn
  abbrev pub IsPlain : ℕ → View E F → Type 0
  IsPlain number v = v ≡ view (account number (own_of v) (seen_of v) ∷ []) [] false v.fixed
