-- What workers still hold once they were run.
use Rattle.std.proofs.Common.{◌≡◌, ℕ, [], ◌∷◌, ◌++◌, length, map, ap, ◌∙◌, sym, arith}
use Rattle.std.proofs.lemmas.List.{length-map, map-append}
use Rattle.sd_model_settings.specs.Settings.{Settings}
use Rattle.sd_pool.specs.Pool.{IsSeatOf, who_is}
use Rattle.sd_pool.proofs.AlongLemmas.{AllByRecursion-append}
use Rattle.sd_shared.specs.declared.shared.Shared.{Shared}
use Rattle.sd_shared_desk.specs.Shared.{IsSeatOf as IsDeskSeatOf, OwnSeat as DeskSeat, number_of_seat}
use Rattle.sd_serve.specs.LinePost.{line_owns, line_seats}
use Rattle.sd_serve.specs.PostRooms.{own_in, seat_in}
use Rattle.sd_flush.specs.Tables.{IsFlusherPost}
use Rattle.sd_serve.specs.Services.{IsCrew}
use Rattle.sd_serve.specs.Workers.{HaveRun, Held, Sights}
use Rattle.sd_serve.specs.declared.crew.SeatLists.{SeatLists}
use Rattle.sd_flush.specs.declared.post.FlusherPost.{FlusherPost}
use Rattle.sd_serve.specs.declared.services.ServicePosts.{ServicePosts}
use Rattle.sd_serve.specs.declared.workers.Ends.{Ends}
use Rattle.sd_serve.proofs.LineLemmas.{IsLineKept, line_kept}
use Rattle.sd_serve.proofs.PostLemmas.{ArePostsKept, all_ran, posts_kept}

-- the posts of these workers, with this one of the flusher
abbrev pub with_flusher : FlusherPost → ServicePosts → ServicePosts
with_flusher post services = record { flusher = post; admin = services.admin; lines = services.lines }

module _ {D L P B E S G C : Type 0} (see : Sights D L P B E S) (shared : Shared G C) (says : ℕ → Type 0) (settings : Settings) (old new : Held D L P B E S) (ends : Ends) (did : HaveRun see shared says settings old new ends) where
  pub all_kept : ArePostsKept see.source see.wire says shared.pool.now shared.desk.now shared.run_flushes old.posts new.posts
  all_kept = posts_kept see.source see.wire says shared.pool.now shared.desk.now shared.run_flushes old.posts new.posts (all_ran see.source see.wire says shared.pool.now shared.desk.now shared.run_flushes old.posts new.posts did.len did.each)

  -- the workers have all seats still, whatever the flusher did since
  pub crew_kept : (lists : SeatLists) (post : FlusherPost) → IsCrew shared.pool.now shared.desk.now lists old.services old.posts → IsFlusherPost shared.pool.now shared.desk.now post → number_of_seat post.own ≡ number_of_seat old.services.flusher.own
      → IsCrew shared.pool.now shared.desk.now lists (with_flusher post new.services) new.posts
  crew_kept lists post is post_is number =
      let posts = all_kept in
      let line : IsLineKept says shared.pool.now shared.desk.now shared.run_flushes old.services.lines new.services.lines = line_kept says shared.pool.now shared.desk.now shared.run_flushes old.services.lines new.services.lines ends.line_reader (see.streams old.objects.streams.now) (see.streams new.objects.streams.now) did.lines in
      let num : DeskSeat → ℕ = number_of_seat in
      let xs = map own_in old.posts in
      let ys = map own_in new.posts in
      let p = line_owns old.services.lines in
      let q = line_owns new.services.lines in
      let p_seats = line_seats old.services.lines in
      let q_seats = line_seats new.services.lines in
      record {
        callers = map-append who_is (map seat_in new.posts) q_seats ∙ (λ i. posts.callers i ++ line.callers i) ∙ sym (map-append who_is (map seat_in old.posts) p_seats) ∙ is.callers;
        numbers =
            map-append num (ys ++ q) (post.own ∷ new.services.admin.own ∷ []) ∙ (λ i. map-append num ys q i ++ number i ∷ did.admin_number i ∷ [])
            ∙ (λ i. (posts.numbers i ++ line.numbers i) ++ num old.services.flusher.own ∷ num old.services.admin.own ∷ [])
            ∙ (λ i. sym (map-append num xs p) i ++ num old.services.flusher.own ∷ num old.services.admin.own ∷ [])
            ∙ sym (map-append num (xs ++ p) (old.services.flusher.own ∷ old.services.admin.own ∷ [])) ∙ is.numbers;
        seats = AllByRecursion-append (IsSeatOf shared.pool.now) (map seat_in new.posts) q_seats posts.seats line.seats;
        owns = AllByRecursion-append (IsDeskSeatOf shared.desk.now) ys q posts.owns line.owns;
        flusher_is = post_is;
        admin_is = did.admin;
        count = (let count = is.count in let len = did.len in let same = sym (length-map q_seats who_is) ∙ ap length line.callers ∙ length-map p_seats who_is in omega (arith, count, len, same));
        own_count = (let count = is.own_count in let len = did.len in let same = sym (length-map q num) ∙ ap length line.numbers ∙ length-map p num in omega (arith, count, len, same));
        none = is.none;
        places = is.places;
        own_places = is.own_places;
        room = is.room;
      }
