-- The made script: packets whose lines are made of a sequence of numbers, and flushes between them.
use Rattle.std.specs.{Prelude.{ℕ, zero, suc, ◌+◌, ◌*◌, ◌/◌, ◌%◌, ◌==◌, ◌||◌, if◌then◌else◌, List, [], ◌∷◌, ◌++◌, flat_map, codes, decimal}, List.{join_with_byte, range_with_len}}
use Rattle.sd_model_replay.specs.Script.{ScriptCommand, Packet, Flush}

-- the numbers of the sequence, counted from 0: the first is 1
abbrev pub made_number : ℕ → ℕ
made_number zero = 1
made_number (suc k) = (75 * made_number k + 74) % 65537

-- The line of a number x: `drill.`, a letter, a fourth of x, a colon, x, a bar and a type; both numbers are modulo 1000.
abbrev pub made_line : List ℕ → List ℕ → ℕ → List ℕ
made_line letter type x = codes "drill." ++ letter ++ decimal (x / 4 % 1000) ++ 58 ∷ decimal (x % 1000) ++ 124 ∷ type

-- the lines of four numbers: of a counter, a timer, a gauge and a set
abbrev pub made_lines : ℕ → ℕ → ℕ → ℕ → List (List ℕ)
made_lines a b c d =
    made_line (codes "c") (codes "c") a
    ∷ made_line (codes "t") (codes "ms") b
    ∷ made_line (codes "g") (codes "g") c
    ∷ made_line (codes "s") (codes "s") d
    ∷ []

-- The datagram of packet j, counted from 0: the lines of the next four numbers, with newlines between them.
unfoldable pub made_datagram : ℕ → List ℕ
made_datagram j =
    join_with_byte 10 (made_lines (made_number (4 * j + 1)) (made_number (4 * j + 2)) (made_number (4 * j + 3)) (made_number (4 * j + 4)))

-- the moment after so many flushes: the second 1000, and ten more for each
abbrev pub made_moment : ℕ → ℕ
made_moment flushes = 1000 + 10 * flushes

-- packet j: two receivers get the packets in turn, at the moment after the flushes so far, one for each thousand packets
unfoldable pub made_packet : ℕ → ScriptCommand
made_packet j = Packet (j % 2) (made_moment (j / 1000)) (made_datagram j)

-- the flush after packet j of n, where there is one: after each 1,000th packet, and after the last
abbrev pub flush_behind : ℕ → ℕ → List ScriptCommand
flush_behind n j = if (j + 1) % 1000 == 0 || j + 1 == n then Flush (made_moment (j / 1000 + 1)) ∷ [] else []

-- The records of n packets: each packet, and the flush after it.
unfoldable pub made_commands : ℕ → List ScriptCommand
made_commands n = flat_map (λ j. made_packet j ∷ flush_behind n j) (range_with_len 0 n)
