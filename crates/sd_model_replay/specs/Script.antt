-- Scripts: the first lines of records; the records that a replay executes, and their text; and what is next in a script.
use Rattle.std.specs.Prelude.{◌≡◌, ℕ, ◌≤◌, List, [], ◌∷◌, ◌++◌, length, flat_map, ◌^◌, ◌<◌, Bool, true, false, decimal, Option, Some, None, ⊤, ◌≢◌, ◌⊎◌, IsTrue, take, slice_index}
use Rattle.sd_model_text.specs.{Lists.{Lacks}, Lines.{longest_datagram}}
use Rattle.sd_model_outside.specs.Outside.{Content, IsAtEnd}
use Rattle.sd_model_record.specs.Admin.{longest_line}

-- A datagram of so many bytes that a receiver got at a moment; a flush; an admin command of so many bytes; the end of the script.
pub data Head : Type 0 where
  PacketHead : (who moment len : ℕ) → Head
  FlushHead : (ts : ℕ) → Head
  AdminHead : (moment len : ℕ) → Head
  EndHead : Head

-- The text of a first line, without its newline: `P W T N`, `F T`, `A T N` or `E`.
abbrev pub head_line : Head → List ℕ
head_line (PacketHead who moment len) = 80 ∷ 32 ∷ decimal who ++ 32 ∷ decimal moment ++ 32 ∷ decimal len
head_line (FlushHead ts) = 70 ∷ 32 ∷ decimal ts
head_line (AdminHead moment len) = 65 ∷ 32 ∷ decimal moment ++ 32 ∷ decimal len
head_line EndHead = 69 ∷ []

-- a receiver, of so many, whose number has at most two digits
abbrev pub IsReceiver : ℕ → ℕ → Type 0
IsReceiver receivers who = (who < receivers) × (who < 10 ^ 2)

-- a moment has at most 18 digits
abbrev pub IsMoment : ℕ → Type 0
IsMoment t = t < 10 ^ 18

-- The numbers of a first line have their forms, where there are so many receivers.
abbrev pub IsForm : ℕ → Head → Type 0
IsForm receivers (PacketHead who moment len) = IsReceiver receivers who × IsMoment moment × (len < 10 ^ 5)
IsForm receivers (FlushHead ts) = IsMoment ts
IsForm receivers (AdminHead moment len) = IsMoment moment × (len < 10 ^ 5)
IsForm receivers EndHead = ⊤

-- What is between a first line and a newline: so many bytes, how many there may be, and whether they are a line, without a newline.
pub record Body : Type 0 where
  pub len : ℕ
  pub most : ℕ
  pub is_line : Bool

-- the body that a first line announces
abbrev pub body_of : Head → Option Body
body_of (PacketHead who moment len) = Some (record { len = len; most = longest_datagram; is_line = false })
body_of (AdminHead moment len) = Some (record { len = len; most = longest_line; is_line = true })
body_of (FlushHead ts) = None
body_of EndHead = None

-- A datagram that a receiver got at a moment, a flush at a Unix second, or the line of an admin command at a moment.
pub data ScriptCommand : Type 0 where
  Packet : (who moment : ℕ) (datagram : List ℕ) → ScriptCommand
  Flush : (ts : ℕ) → ScriptCommand
  Admin : (moment : ℕ) (line : List ℕ) → ScriptCommand

-- The text of a record: `P W T N` or `A T N`, a newline, N bytes of the datagram or the line, a newline; or `F T` and a newline.
abbrev pub spelled : ScriptCommand → List ℕ
spelled (Packet who moment datagram) = head_line (PacketHead who moment (length datagram)) ++ 10 ∷ datagram ++ 10 ∷ []
spelled (Flush ts) = head_line (FlushHead ts) ++ 10 ∷ []
spelled (Admin moment line) = head_line (AdminHead moment (length line)) ++ 10 ∷ line ++ 10 ∷ []

-- `E` and a newline, which end a script
abbrev pub end_word : List ℕ
end_word = head_line EndHead ++ 10 ∷ []

-- the text of a script's records, one after another
abbrev pub script_text : List ScriptCommand → List ℕ
script_text commands = flat_map spelled commands

-- A record that is legal where there are so many receivers.
abbrev pub IsLegal : ℕ → ScriptCommand → Type 0
IsLegal receivers (Packet who moment datagram) = IsReceiver receivers who × IsMoment moment × (length datagram ≤ longest_datagram)
IsLegal receivers (Flush ts) = IsMoment ts
IsLegal receivers (Admin moment line) = IsMoment moment × (length line ≤ longest_line) × Lacks 10 line

-- bytes that begin with the word that ends a script
abbrev pub BeginsEnd : List ℕ → Type 0
BeginsEnd bytes = (rest : List ℕ) × (bytes ≡ end_word ++ rest)

-- What is wrong with a record: its first line is of no form; its number of bytes is too great or wrong; the script ends within it.
pub data ScriptFlaw : Type 0 where
  BadWord BadLength CutShort : ScriptFlaw

-- the first line is none of the forms
pub record HasNoForm (receivers : ℕ) (bytes : List ℕ) : Type 0 where
  pub line : List ℕ
  pub rest : List ℕ
  pub whole : bytes ≡ line ++ 10 ∷ rest
  pub first : Lacks 10 line
  pub other : (head : Head) → IsForm receivers head → line ≢ head_line head

-- Bytes that begin with a first line that announces a body, and with what is after it the body is so.
pub record HasBody (receivers : ℕ) (IsSo : Body → List ℕ → Type 0) (bytes : List ℕ) : Type 0 where
  pub head : Head
  pub body : Body
  pub rest : List ℕ
  pub form : IsForm receivers head
  pub whole : bytes ≡ head_line head ++ 10 ∷ rest
  pub announced : body_of head ≡ Some body
  pub so : IsSo body rest

-- as many bytes are there as may, and one more, and they don't fit
abbrev pub IsWrong : Body → List ℕ → Type 0
IsWrong body rest = (body.len ≤ body.most) × (body.len < length rest) × ((slice_index rest body.len ≢ 10) ⊎ (IsTrue body.is_line × ¬ Lacks 10 (take body.len rest)))

-- bytes that don't decide yet what is next, so that more have to be read: a part of a line, or of a body
abbrev pub IsUndecided : ℕ → List ℕ → Type 0
IsUndecided receivers bytes = (Lacks 10 bytes × (length bytes < 40)) ⊎ HasBody receivers (λ body rest. (body.len ≤ body.most) × (length rest ≤ body.len)) bytes

-- The flaw of a record, by the bytes that were read from its place on and what the source has left after them. It is the first of
-- these, each of which leaves out those before it: the source ends within the first line; there is no line, or one of no form; its
-- number of bytes is over its greatest value; the source ends within the body; the body is wrong.
abbrev pub HasFlaw : ℕ → ScriptFlaw → List ℕ → Content → Type 0
HasFlaw receivers BadWord bytes left = (Lacks 10 (take 40 bytes) × (40 ≤ length bytes)) ⊎ HasNoForm receivers bytes
HasFlaw receivers BadLength bytes left = HasBody receivers (λ body rest. body.most < body.len) bytes ⊎ HasBody receivers IsWrong bytes
HasFlaw receivers CutShort bytes left = IsUndecided receivers bytes × IsAtEnd left

-- What is next in a script: a record, the word that ends it, or the flaw of a record.
pub data Next : Type 0 where
  Executed : (command : ScriptCommand) → Next
  Ending : Next
  Faulty : (flaw : ScriptFlaw) → Next

-- this is next in bytes that were read, after which a source has so much left
abbrev pub Begins : ℕ → Next → List ℕ → Content → Type 0
Begins receivers (Executed command) bytes left = IsLegal receivers command × ((rest : List ℕ) × (bytes ≡ spelled command ++ rest))
Begins receivers Ending bytes left = BeginsEnd bytes
Begins receivers (Faulty flaw) bytes left = HasFlaw receivers flaw bytes left
