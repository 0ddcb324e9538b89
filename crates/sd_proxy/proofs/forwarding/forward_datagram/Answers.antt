use Rattle.std.proofs.Common.{◌∙◌, [], map, sym}
use Rattle.sd_model_text.specs.Lines.{lines}
use Rattle.sd_proxy_desk.specs.Views.{totals_view}
use Rattle.sd_proxy.proofs.ForwardLemmas.{datagram_first, read_sent, sent_none}
use Rattle.sd_proxy.proofs.forwarding.forward_datagram.Goals as goal

pub returns-clause-none : goal.returns-clause-none
returns-clause-none g c most none =
    let nodes = c.args.ring.now in
    let first = map g.L.Faulty.seen c.args.wires.now in
    let before = totals_view c.args.totals.now in
    let done = lines c.args.datagram.now in
    sent_none most nodes c.args.up 1 0 done _ _ _ _ _
    (c.send_waiting.ensures.sends most 1 0 nodes c.args.up done first before (sym c.requires.wires ∙ sym c.forward_lines.ensures.wires)
    (c.forward_lines.ensures.takes.on most 1 0 [] first before
    (datagram_first most nodes c.args.up c.args.waiting.now first c.args.totals.now
    (totals_view c.add_packet.new.self) none c.add_packet.ensures)))

pub returns-clause-forwards : goal.returns-clause-forwards
returns-clause-forwards g c most none =
    let nodes = c.args.ring.now in
    let first = map g.L.Faulty.seen c.args.wires.now in
    let before = totals_view c.args.totals.now in
    let done = lines c.args.datagram.now in
    read_sent most nodes c.args.up 1 0 done _ _ _ _ _
    (c.send_waiting.ensures.sends most 1 0 nodes c.args.up done first before (sym c.requires.wires ∙ sym c.forward_lines.ensures.wires)
    (c.forward_lines.ensures.takes.on most 1 0 [] first before
    (datagram_first most nodes c.args.up c.args.waiting.now first c.args.totals.now
    (totals_view c.add_packet.new.self) none c.add_packet.ensures)))
