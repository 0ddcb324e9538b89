-- What a thread did at all shards and at the desk, one thing behind another.
use Rattle.std.proofs.Common.{◌∙◌, ℕ, List, [], ◌∷◌, ◌++◌, append-nil, append_assoc, refl, sym, ap, subst}
use Rattle.std.specs.Prelude.{flat_map}
use Rattle.sd_shared_desk.specs.Counts.{nothing}
use Rattle.sd_model_record.specs.DeskHistory.{DeskCall}
use Rattle.sd_shared_desk.proofs.CountLemmas.{counted_none, counted_next}
use Rattle.sd_model_serve.specs.Sessions.{line_calls, Exchange}
use Rattle.sd_pool.specs.Pool.{own_at}
use Rattle.sd_pool.specs.declared.seat.Seat.{Seat}
use Rattle.sd_shared_desk.specs.Shared.{OwnSeat, part_of}
use Rattle.sd_talk.specs.Answers.{Along}
use Rattle.sd_session.specs.Doing.{HasDone}
use Rattle.sd_session.specs.Answering.{AnswersWith, HasAnswered}
use Rattle.sd_session.specs.declared.answerer.AdminAnswerer.{AdminAnswerer}
use Rattle.sd_session.proofs.ExecutionLemmas.{Broadcasts-none, Broadcasts-next}
use Rattle.sd_model_serve.proofs.Short.{asked_in}
use Rattle.sd_model_serve.specs.Receiving.{Broadcast}

module _ (shards : ℕ) where
  -- nothing
  pub done-none : (seat : Seat) (own : OwnSeat) → HasDone shards [] [] seat seat own own
  done-none seat own = record {
    asked = Broadcasts-none shards (own_at seat);
    called = sym (append-nil (part_of own).own);
    counted = counted_none (part_of own);
    number = refl;
  }

  -- more
  pub done-more : (xs ys : List Broadcast) (calls more : List DeskCall) (seat seat_mid seat_now : Seat) (own mid own_now : OwnSeat) → HasDone shards xs calls seat seat_mid own mid → HasDone shards ys more seat_mid seat_now mid own_now → HasDone shards (xs ++ ys) (calls ++ more) seat seat_now own own_now
  done-more xs ys calls more seat seat_mid seat_now own mid own_now h g = record {
    asked = Broadcasts-next shards xs ys (own_at seat) (own_at seat_mid) (own_at seat_now) h.asked g.asked;
    called = g.called ∙ ap (λ (l : List DeskCall). l ++ more) h.called ∙ append_assoc (part_of own).own calls more;
    counted = counted_next nothing nothing (part_of own) (part_of mid) (part_of own_now) h.counted g.counted;
    number = g.number ∙ h.number;
  }

  -- What an answerer did in lines: it answers with the same as before, and did what the lines do.
  pub record HasAnsweredAll (es : List Exchange) (old new : AdminAnswerer) : Type 0 where
    pub works : AnswersWith old new
    pub done : HasDone shards (asked_in es) (flat_map line_calls es) old.seat.now new.seat.now old.own.now new.own.now

  -- an answerer did in lines what each of them leads to
  pub answered_all : (es : List Exchange) (old new : AdminAnswerer) → Along (HasAnswered shards) es old new → HasAnsweredAll es old new
  answered_all [] old new same =
      subst (HasAnsweredAll [] old) (sym same) (record { works = record { seat = refl; own = refl; replies = refl }; done = done-none old.seat.now old.own.now })
  answered_all (e ∷ es) old new along =
      let mid = along.0 in
      let first = along.1 in
      let rest = answered_all es mid new along.2 in
      record {
        works = record {
          seat = rest.works.seat ∙ first.works.seat;
          own = rest.works.own ∙ first.works.own;
          replies = rest.works.replies ∙ first.works.replies;
        };
        done = done-more e.asked (asked_in es) (line_calls e) (flat_map line_calls es) old.seat.now mid.seat.now new.seat.now old.own.now mid.own.now new.own.now first.executed rest.done;
      }
