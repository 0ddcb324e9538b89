use Rattle.std.proofs.Common.{◌≡◌, OnOk, subst}
use Rattle.std.specs.Str.{bytes_eq}
use Rattle.lru.specs.LruCache.{lru_cache, put_entries}
use Rattle.sd_ring.proofs.CacheLemmas.{put}
use Rattle.sd_ring.proofs.homes.remember.Goals as goal

pub returns : goal.returns
returns c =
    let cache = c.args.homes.now in
    put c.put.result cache c.put.new.self c.args.key.now c.args.home
    (subst (λ key. OnOk c.put.result (c.put.new.self ≡ lru_cache (put_entries bytes_eq cache key c.args.home) cache.cap)) c.copy_of.ensures c.put.ensures.entries)
    c.put.ensures.err
