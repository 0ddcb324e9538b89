use Rattle.std.proofs.Common.{inl, inr}
use Rattle.sd_proxy.proofs.LineLemmas.{SendsStreams-failed, SendsStreams-none, SendsStreams-one}
use Rattle.sd_proxy.proofs.line_reading.serve_next.Goals as goal

pub returns-in-Session-clause-sends : goal.returns-in-Session-clause-sends
returns-in-Session-clause-sends g c most none =
    SendsStreams-one most c.args.ring.now _ _ _ _ _ _ _ _ _ _ _ c.requires.few c.in-Session.ensures c.leave.ensures
    (c.forward_stream-came_to.ensures.sends most none)

pub returns-in-Idle-clause-sends : goal.returns-in-Idle-clause-sends
returns-in-Idle-clause-sends g c most none = elim c.in-Idle.is [
  | inl idle ↦
      let is = rw idle at c.next_session.ensures in
      SendsStreams-none most c.args.ring.now _ _ _ _ _ c.requires.none_out c.requires.few is c.none.ensures
  | inr failed ↦
      let is = rw failed at c.next_session.ensures in
      SendsStreams-failed most c.args.ring.now _ _ _ _ _ c.requires.none_out c.requires.few is c.none.ensures
]
