-- What a cache of homes remembers.
use Rattle.std.specs.Prelude.{ℕ, List, Contains}
use Rattle.lru.specs.LruCache.{LruCache}

-- the key stands there with this home
abbrev pub Remembers : LruCache (List ℕ) ℕ → List ℕ → ℕ → Type 0
Remembers cache key home = Contains cache.entries (key, home)
