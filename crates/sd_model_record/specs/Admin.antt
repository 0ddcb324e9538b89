-- Admin commands (StatsD, docs/admin_interface.md; `totals`, `config`, `quit` are ours): what a line asks for, or its fault.
use Rattle.std.specs.{Prelude.{ℕ, not, nat_le, if◌then◌else◌, List, [], ◌∷◌, length, filter, Result, Ok, Err, codes}, List.{slice_split}, Str.{bytes_eq}}
use Rattle.sd_model_text.specs.{Lists.{is_white_space}, Names.{Kind, Counter, Timer, Gauge}, Lines.{is_empty}}

-- What a command does with the health: sets it, or asks for it.
pub data HealthWord : Type 0 where
  Up Down Ask : HealthWord

-- A command: it asks for what the server counts of itself, for the totals so far, for the settings, or for the end of the session;
-- shows the rows of a kind; deletes the rows of a kind that the names match; or is about the health.
pub data Command : Type 0 where
  Stats Totals Config Quit : Command
  Show : (kind : Kind) → Command
  Delete : (kind : Kind) (names : List (List ℕ)) → Command
  Health : (word : HealthWord) → Command

-- Why a line is no command: its first word is that of none, or it has no word; a deletion has no name; it is too long.
pub data AdminFault : Type 0 where
  UnknownWord MissingName TooLong : AdminFault

-- the words of a line: its parts between white space, without the empty ones
abbrev pub words : List ℕ → List (List ℕ)
words line = filter (λ part. not (is_empty part)) (slice_split is_white_space line)

-- the deletion of rows of a kind, by at least one name
abbrev pub deletion : Kind → List (List ℕ) → Result Command AdminFault
deletion kind [] = Err MissingName
deletion kind (name ∷ names) = Ok (Delete kind (name ∷ names))

-- what the words after `health` say; neither `up` nor `down` asks
abbrev pub health_word : List (List ℕ) → HealthWord
health_word [] = Ask
health_word (word ∷ rest) =
    if bytes_eq word (codes "up") then Up
    else (if bytes_eq word (codes "down") then Down else Ask)

-- the command that a first word names, with the words after it; those that a command doesn't use have no effect
abbrev pub command_named : List ℕ → List (List ℕ) → Result Command AdminFault
command_named word rest =
    if bytes_eq word (codes "stats") then Ok Stats
    else (if bytes_eq word (codes "counters") then Ok (Show Counter)
    else (if bytes_eq word (codes "timers") then Ok (Show Timer)
    else (if bytes_eq word (codes "gauges") then Ok (Show Gauge)
    else (if bytes_eq word (codes "delcounters") then deletion Counter rest
    else (if bytes_eq word (codes "deltimers") then deletion Timer rest
    else (if bytes_eq word (codes "delgauges") then deletion Gauge rest
    else (if bytes_eq word (codes "health") then Ok (Health (health_word rest))
    else (if bytes_eq word (codes "totals") then Ok Totals
    else (if bytes_eq word (codes "config") then Ok Config
    else (if bytes_eq word (codes "quit") then Ok Quit
    else Err UnknownWord))))))))))

-- the command of a line's words
abbrev pub command_of_words : List (List ℕ) → Result Command AdminFault
command_of_words [] = Err UnknownWord
command_of_words (word ∷ rest) = command_named word rest

-- the most bytes that a line has, without the newline that ends it, and with the white space before that
abbrev pub longest_line : ℕ
longest_line = 1023

-- the command of a line, or its fault; that it is too long comes first
abbrev pub command : List ℕ → Result Command AdminFault
command line = if nat_le (length line) longest_line then command_of_words (words line) else Err TooLong
