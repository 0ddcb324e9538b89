-- The hash by which the index finds a kind and key.
use Rattle.std.specs.Prelude.{ℕ, ◌+◌, ◌*◌, ◌/◌, ◌%◌, ◌^◌, List, bit_xor}
use Rattle.sd_model_text.specs.Names.{fnv1a, rank}
use Rattle.sd_key.specs.Kind.{kind_of}
use Rattle.sd_key.specs.declared.kind.Kind.{Kind}

-- a number of 64 bits, xored with its upper bits
abbrev pub folded : ℕ → ℕ
folded n = bit_xor n (n / 2 ^ 33)

-- the finisher fmix64 of MurmurHash3 (Appleby, https://github.com/aappleby/smhasher)
abbrev pub mixed : ℕ → ℕ
mixed n = folded (folded (folded n * 0xff51afd7ed558ccd % 2 ^ 64) * 0xc4ceb9fe1a85ec53 % 2 ^ 64)

-- the hash of a kind and key under a seed, of 32 bits
abbrev pub hash_of : ℕ → Kind → List ℕ → ℕ
hash_of seed kind key = mixed ((bit_xor (fnv1a key) seed + rank (kind_of kind)) % 2 ^ 64) / 2 ^ 32
