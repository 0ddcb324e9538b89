-- What a cache of homes remembers after a look-up, and after a key was put into it.
use Rattle.std.proofs.Common.{◌≡◌, ◌⊎◌, ℕ, List, true, Option, Some, None, Result, Ok, Err, Contains, IfSome, OnOk, OnErr, inl, inr, sym, subst}
use Rattle.std.specs.Map.{lookup}
use Rattle.std.specs.Str.{bytes_eq}
use Rattle.std.proofs.lemmas.Slice.Eq.{bytes_eq-Decides}
use Rattle.lru.specs.LruCache.{LruCache, lru_cache, promoted, put_entries}
use Rattle.lru.proofs.CallerLemmas.{Contains-lookup, Contains-promoted, Contains-put_entries}
use Rattle.sd_ring.specs.Homes.{Remembers}

same_key : (a b : List ℕ) → bytes_eq a b ≡ true → a ≡ b
same_key a b = (bytes_eq-Decides a b).0

pub found : (cache : LruCache (List ℕ) ℕ) (key : List ℕ) (o : Option ℕ) → o ≡ lookup (bytes_eq key) cache.entries → IfSome o (Remembers cache key)
found cache key None is = tt
found cache key (Some home) is =
    let (other, there, passes) = Contains-lookup (bytes_eq key) cache.entries home (sym is) in
    subst (λ k. Contains cache.entries (k, home)) (sym (same_key key other passes)) there

pub kept : (cache after : LruCache (List ℕ) ℕ) (key : List ℕ) → after ≡ lru_cache (promoted (bytes_eq key) cache.entries) cache.cap
    → (other : List ℕ) (home : ℕ) → Remembers after other home → Remembers cache other home
kept cache after key is other home there = Contains-promoted (bytes_eq key) cache.entries (other, home) (subst (λ c. Remembers c other home) is there)

put_there : (cache : LruCache (List ℕ) ℕ) (key : List ℕ) (home : ℕ) (other : List ℕ) (at : ℕ)
    → Contains (put_entries bytes_eq cache key home) (other, at) → Remembers cache other at ⊎ ((other ≡ key) × (at ≡ home))
put_there cache key home other at there =
    elim (Contains-put_entries bytes_eq cache key home (other, at) there) [
      | inl was ↦ inl was
      | inr (same, inl is) ↦ inr (is, same)
      | inr (same, inr (old, was, passes)) ↦ inr (sym (same_key key other passes), same)
    ]

pub put : {A B : Type 0} (r : Result A B) (cache after : LruCache (List ℕ) ℕ) (key : List ℕ) (home : ℕ)
    → OnOk r (after ≡ lru_cache (put_entries bytes_eq cache key home) cache.cap) → OnErr r (after ≡ cache)
    → (other : List ℕ) (at : ℕ) → Remembers after other at → Remembers cache other at ⊎ ((other ≡ key) × (at ≡ home))
put (Ok a) cache after key home ok err other at there = put_there cache key home other at (subst (λ c. Remembers c other at) ok there)
put (Err b) cache after key home ok err other at there = inl (subst (λ c. Remembers c other at) err there)
