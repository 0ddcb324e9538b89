-- The numbers of the sequence, packet by packet.
use Rattle.std.proofs.Common.{◌≡◌, ℕ, suc, ◌+◌, ◌*◌, refl, ap, ◌∙◌, arith}
use Rattle.std.specs.List.{join_with_byte}
use Rattle.sd_model_replay.specs.MadeScript.{made_number, made_lines, made_datagram}
use Rattle.sd_model_replay.proofs.Short.{next_number}

-- the number behind number m
number_behind : (m k : ℕ) → k ≡ suc m → made_number k ≡ next_number (made_number m)
number_behind m k next = ap made_number next

-- the numbers of packet j's lines follow the last one before it
pub record IsOfPacket (j last a b c d : ℕ) : Type 0 where
  pub last_is : last ≡ made_number (4 * j)
  pub first : a ≡ next_number last
  pub second : b ≡ next_number a
  pub third : c ≡ next_number b
  pub fourth : d ≡ next_number c

module _ (j last a b c d : ℕ) (numbers : IsOfPacket j last a b c d) where
  first_is : a ≡ made_number (4 * j + 1)
  first_is = rw (numbers.first, numbers.last_is, number_behind (4 * j) (4 * j + 1) (omega arith)) refl

  second_is : b ≡ made_number (4 * j + 2)
  second_is = rw (numbers.second, first_is, number_behind (4 * j + 1) (4 * j + 2) (omega arith)) refl

  third_is : c ≡ made_number (4 * j + 3)
  third_is = rw (numbers.third, second_is, number_behind (4 * j + 2) (4 * j + 3) (omega arith)) refl

  fourth_is : d ≡ made_number (4 * j + 4)
  fourth_is = rw (numbers.fourth, third_is, number_behind (4 * j + 3) (4 * j + 4) (omega arith)) refl

  pub last_of_packet : d ≡ made_number (4 * (j + 1))
  last_of_packet = let same : 4 * j + 4 ≡ 4 * (j + 1) = omega arith in fourth_is ∙ ap made_number same

  pub datagram_of_packet : join_with_byte 10 (made_lines a b c d) ≡ made_datagram j
  unfolding made_datagram
  datagram_of_packet = rw (first_is, second_is, third_is, fourth_is) refl
