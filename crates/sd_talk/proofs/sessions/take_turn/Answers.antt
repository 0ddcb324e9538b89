use Rattle.std.proofs.Common.{◌+◌, ◌++◌, ◌∷◌, take, drop, ap, sym, subst, ◌∙◌, arith}
use Rattle.std.proofs.lemmas.List.{with_items_is, length-take-le}
use Rattle.sd_model_serve.specs.Sessions.{HasNoNewline}
use Rattle.sd_talk.proofs.SessionLemmas.{Listens-read, Listens-line, Stops-cut, Stops-long, Stops-quit, Stops-read}
use Rattle.sd_talk.proofs.TurnLemmas.{fits_line, none_of, some_of}
use Rattle.sd_talk.proofs.sessions.take_turn.Goals as goal

pub returns-then-room-len-clause-ends : goal.returns-then-room-len-clause-ends
returns-then-room-len-clause-ends g c =
    let items = c.args.room.now.bytes.items in
    let n = c.args.room.now.len in
    Stops-long (g.V.Answerer.talk c.args.shared.now) (g.V.Answerer.has_answered c.args.shared.now) c.end_too_long.result _ (take n items) _ _ _
    (subst (λ xs. HasNoNewline (take n xs)) c.deref.ensures.value c.in_default.ensures)
    (omega (arith, length-take-le n items (omega (arith, c.requires.room, c.requires.len)), c.if-room-len.true, c.len.ensures, c.requires.room)) c.end_too_long.ensures

pub returns-in_default-clause-on : goal.returns-in_default-clause-on
returns-in_default-clause-on g c =
    rw (with_items_is c.args.room.now.bytes c.read_on.new.buf (c.read_on.ensures.room ∙ c.deref_mut.ensures.len), ← c.deref_mut.ensures.value)
    (none_of c.read_on.result (λ h. Listens-read (g.V.Answerer.talk c.args.shared.now) (g.V.Answerer.has_answered c.args.shared.now) _ _ _ h.0 _ _ _ (g.met.O.Sink.number_fits c.args.sink.now) h.1 h.2) c.read_on.ensures.on)

pub returns-in_default-clause-ends : goal.returns-in_default-clause-ends
returns-in_default-clause-ends g c =
    let items = c.args.room.now.bytes.items in
    let n = c.args.room.now.len in
    some_of c.read_on.result (λ ended h. Stops-read (g.V.Answerer.talk c.args.shared.now) (g.V.Answerer.has_answered c.args.shared.now) ended _ (take n items) _ _ _
    (subst (λ xs. HasNoNewline (take n xs)) c.deref.ensures.value c.in_default.ensures)
    (omega (arith, length-take-le n items (omega (arith, c.requires.room, c.requires.len)), c.if-room-len.false, c.len.ensures, c.requires.len, c.requires.room)) h.1) c.read_on.ensures.ends

pub returns-in-Whole-clause-on : goal.returns-in-Whole-clause-on
returns-in-Whole-clause-on g c =
    let n = c.args.room.now.len in
    let end = c.in-Some.end in
    let bytes = take n c.deref.result.now in
    rw (with_items_is c.args.room.now.bytes c.drop_line.new.buf (c.drop_line.ensures.room ∙ c.deref_mut-in-Whole.ensures.len), ← c.deref.ensures.value)
    (Listens-line (g.V.Answerer.talk c.args.shared.now) (g.V.Answerer.has_answered c.args.shared.now) _ _ _ _ _ _ _ _ c.in-Whole.ensures.answered
    (fits_line c.deref.result.now n end c.requires.len c.in-Some.ensures.0 c.in-Some.ensures.1)
    (c.in-Some.ensures.2 ∙ ap (λ xs. take end bytes ++ 10 ∷ xs) (ap (λ xs. drop (end + 1) (take n xs)) (c.deref.ensures.value ∙ sym c.deref_mut-in-Whole.ensures.value) ∙ sym c.drop_line.ensures.left)))

pub returns-in-Quit-clause-ends : goal.returns-in-Quit-clause-ends
returns-in-Quit-clause-ends g c =
    rw (← c.deref.ensures.value) (Stops-quit (g.V.Answerer.talk c.args.shared.now) (g.V.Answerer.has_answered c.args.shared.now) _ _ _ _ _ _ _ _ c.in-Quit.ensures.answered (fits_line c.deref.result.now c.args.room.now.len c.in-Some.end c.requires.len c.in-Some.ensures.0 c.in-Some.ensures.1) c.in-Some.ensures.2)

pub returns-in-Cut-clause-ends : goal.returns-in-Cut-clause-ends
returns-in-Cut-clause-ends g c =
    rw (← c.deref.ensures.value) (Stops-cut (g.V.Answerer.talk c.args.shared.now) (g.V.Answerer.has_answered c.args.shared.now) _ _ _ _ _ _ _ _ c.in-Cut.ensures.answered c.in-Cut.ensures.place (fits_line c.deref.result.now c.args.room.now.len c.in-Some.end c.requires.len c.in-Some.ensures.0 c.in-Some.ensures.1) c.in-Some.ensures.2)
