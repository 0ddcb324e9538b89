use Rattle.std.proofs.Common.{◌≡◌, [], ◌∷◌, codes, ap, refl}
use Rattle.md5.specs.Md5.{word_at, block_words, rounds, compress, hash_after, digest_bytes, md5}
use Rattle.md5.proofs.StandardFacts.{digest_of_abc}
use Rattle.sd_model_ring.proofs.ring.key_vectors.Goals as goal

digest_of_a : md5 (codes "a") ≡ 0x0c ∷ 0xc1 ∷ 0x75 ∷ 0xb9 ∷ 0xc0 ∷ 0xf1 ∷ 0xb6 ∷ 0xa8 ∷ 0x31 ∷ 0xc3 ∷ 0x99 ∷ 0xe2 ∷ 0x69 ∷ 0x77 ∷ 0x26 ∷ 0x61 ∷ []
unfolding block_words rounds compress hash_after digest_bytes md5
digest_of_a = refl

pub returns-clause-one : goal.returns-clause-one
returns-clause-one c = ap (λ digest. word_at digest 0) digest_of_a

pub returns-clause-three : goal.returns-clause-three
returns-clause-three c = ap (λ digest. word_at digest 0) digest_of_abc
