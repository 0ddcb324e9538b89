-- The rooms of receivers and of the reader of lines, and their posts.
use Rattle.std.specs.Prelude.{◌≡◌, ℕ, ◌≤◌, List, [], All, IfSome, length, option_to_list, vec_capacity}
use Rattle.sd_model_settings.specs.Entries.{Node}
use Rattle.sd_relay.specs.LinePost.{HasLinePlace, IsClearLine, IsLineFitted, NoneWaitsInLine}
use Rattle.sd_relay.specs.PostRooms.{HasPlace, IsClear, IsFitted, NoLineWaits}
use Rattle.sd_relay.specs.declared.own_parts.OwnParts.{OwnParts}
use Rattle.sd_relay.specs.declared.postings.Postings.{Postings}
use Rattle.sd_relay.specs.declared.postings.Posts.{Posts}

module _ {D L : Type 0} where
  -- There is the room of each of so many receivers and readers of lines of these nodes, and room for the receivers' posts.
  pub record ArePostingsFor (nodes : List Node) (receivers lines : ℕ) (p : Postings D L) : Type 0 where
    pub places : length p.rooms.items ≡ receivers
    pub place_each : All (HasPlace nodes) p.rooms.items
    pub line_readers : length (option_to_list p.lines) ≡ lines
    pub line_reader : IfSome p.lines (HasLinePlace nodes)
    pub no_post : p.posts.items ≡ []
    pub post_room : receivers ≤ vec_capacity p.posts

  -- no line waits in the room of a receiver or of the reader of lines, each of which has room for packets of at most so many bytes
  abbrev pub AreClear : (most : ℕ) → Postings D L → Type 0
  AreClear most p = All (IsClear most) p.rooms.items × IfSome p.lines (IsClearLine most)

  -- each post is fitted for these nodes
  abbrev pub AreFitted : List Node → Posts D L → Type 0
  AreFitted nodes posts = All (IsFitted nodes) posts.receivers.items × IfSome posts.lines (IsLineFitted nodes)

  -- no line waits in posts, each of which has room for packets of at most so many bytes
  abbrev pub NoneWaitInPosts : (most : ℕ) → Posts D L → Type 0
  NoneWaitInPosts most posts = All (NoLineWaits most) posts.receivers.items × IfSome posts.lines (NoneWaitsInLine most)

-- What the checker and the port have is as it was, and so is the room for all passes and for all seats, apart.
pub record SameServices (old new : OwnParts) : Type 0 where
  pub checker : new.checker ≡ old.checker
  pub port : new.port ≡ old.port
  pub passes : new.passes ≡ old.passes
  pub seats : new.seats ≡ old.seats
