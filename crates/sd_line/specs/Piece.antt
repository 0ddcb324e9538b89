-- What the code reads of a piece, as the definitions have it.
use Rattle.std.specs.Prelude.{◌≡◌, ℕ, List, Option, Result, Ok, Err, ⊤, MatchOption, MatchResult, OnErr}
use Rattle.sd_model_text.specs.Lines as model
use Rattle.sd_model_text.specs.Lines.{reading}
use Rattle.sd_law_text.specs.Grammar as grammar
use Rattle.sd_decimal.specs.NumberFault.{flaw_of}
use Rattle.sd_key.specs.Clean.{fault_of}
use Rattle.sd_line.specs.declared.piece.Bad.{Bad}
use Rattle.sd_line.specs.declared.piece.Bad.TheVariants.{NoValue, NoType, UnknownType, Number, Rate, NegativeTimer, Key, MemberLong, ExtraField}

-- the flaw of the definitions that a cause of the code is
abbrev pub cause_of : Bad → model.Flaw
cause_of NoValue = model.NoValue
cause_of NoType = model.NoType
cause_of UnknownType = model.UnknownType
cause_of (Number fault) = model.BadNumber (flaw_of fault)
cause_of Rate = model.BadRate
cause_of NegativeTimer = model.NegativeTimer
cause_of (Key fault) = model.BadKey (fault_of fault)
cause_of MemberLong = model.LongMember
cause_of ExtraField = model.ExtraField

-- the definitions give what was answered, seen by f
abbrev pub Gives : {A B : Type 0} → (A → B) → Result A Bad → Result B model.Flaw → Type 0
Gives f (Ok x) read = read ≡ Ok (f x)
Gives f (Err bad) read = read ≡ Err (cause_of bad)

-- The answer to a piece: its sample just where it is good, and its cause just where it is bad.
pub record Answers (piece : List ℕ) (answer : Result model.Sample Bad) : Type 0 where
  pub read : Gives (λ s. s) answer (reading piece)
  pub grammar : MatchResult answer (grammar.Good piece) (λ bad. grammar.IsBad piece (cause_of bad))

-- the answer to a piece whose sample, if it has one, was put into a lent one
abbrev pub filled : model.Sample → Result ⊤ Bad → Result model.Sample Bad
filled s (Ok _) = Ok s
filled s (Err bad) = Err bad

-- the lent sample is the old one, unless an answer says that there is another
abbrev pub Stays : Option (Result ⊤ Bad) → model.Sample → model.Sample → Type 0
Stays answer old new = MatchOption answer (new ≡ old) (λ a. OnErr a (new ≡ old))
