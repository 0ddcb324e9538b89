-- What the administrator asks of all shards together, and what is replied.
use Rattle.std.specs.Prelude.{◌≡◌, ℕ, List, [], ◌∷◌, ◌++◌, map, Result, ⊤, flat_map}
use Rattle.sd_model_text.specs.Names.{Kind}
use Rattle.sd_model_outside.specs.Outside.{Object}
use Rattle.sd_model_settings.specs.Settings as file
use Rattle.sd_model_shard.specs.Rows.{DumpRow, in_key_order}
use Rattle.sd_model_shard.specs.History.{History}
use Rattle.sd_model_shard.specs.Shard.{Delete, Dump, Look, Numbers}
use Rattle.sd_model_record.specs.Desk.{Facts}
use Rattle.sd_model_record.specs.Replies.{Finish, names_replied, numbers_looked, keys_in, rows_in}
use Rattle.sd_session.specs.Executed.{Broadcasts, AreReplied, IsExecuted}
use Rattle.std.specs.List.{range_with_len}
use Rattle.sd_model_serve.specs.Receiving.{Broadcast, events_in, replies_at}

module _ (shards : ℕ) where
  -- each of so many shards was asked for a deletion, and these are the keys that all of them told
  pub record Deletes (kind : Kind) (name : List ℕ) (own own_now : ℕ → History) (keys : List (List ℕ)) : Type 0 where
    pub broadcast : Broadcast
    pub event : broadcast.event ≡ Delete kind name
    pub asked : Broadcasts shards (broadcast ∷ []) own own_now
    pub reported : keys ≡ in_key_order (λ key. key) (flat_map keys_in (map broadcast.replies (range_with_len 0 shards)))

  -- each of so many shards was asked for a dump, and these are the rows that all of them told
  pub record Dumps (kind : Kind) (own own_now : ℕ → History) (rows : List DumpRow) : Type 0 where
    pub broadcast : Broadcast
    pub event : broadcast.event ≡ Dump kind
    pub asked : Broadcasts shards (broadcast ∷ []) own own_now
    pub reported : rows ≡ in_key_order (λ row. row.key) (flat_map rows_in (map broadcast.replies (range_with_len 0 shards)))

  -- each of so many shards was asked for its numbers, and these are what they told
  pub record Looks (own own_now : ℕ → History) (reported_numbers : List Numbers) : Type 0 where
    pub broadcast : Broadcast
    pub event : broadcast.event ≡ Look
    pub asked : Broadcasts shards (broadcast ∷ []) own own_now
    pub reported : reported_numbers ≡ flat_map numbers_looked (map broadcast.replies (range_with_len 0 shards))

  -- Each of so many shards was asked for the deletions by names, one after another, and they were replied to: all of them, or
  -- up to the one whose reply was cut.
  pub record DeletesNames {E : Type 0} (kind : Kind) (names : List (List ℕ)) (result : Result ⊤ E) (own own_now : ℕ → History) (sink sink_now : Object) : Type 0 where
    pub broadcasts : List Broadcast
    pub asked : Broadcasts shards broadcasts own own_now
    pub replied : AreReplied (names_replied (replies_at shards broadcasts) names ++ Finish ∷ []) (map (Delete kind) names) (events_in broadcasts) result sink sink_now

  -- a line that came now was executed, and replied to
  pub record Executes {E : Type 0} (settings : file.Settings) (facts : Facts) (now : ℕ) (line : List ℕ) (result : Result ⊤ E) (own own_now : ℕ → History) (sink sink_now : Object) : Type 0 where
    pub broadcasts : List Broadcast
    pub asked : Broadcasts shards broadcasts own own_now
    pub executed : IsExecuted shards settings (record { line = line; now = now; facts = facts; asked = broadcasts }) result sink sink_now
