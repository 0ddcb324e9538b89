use Rattle.std.proofs.Common.{◌∙◌, ◌+◌, ap, sym, ◌++◌}
use Rattle.sd_script.specs.Texts.{text_from}
use Rattle.sd_script.proofs.TextLemmas.{text_from_next, text_appended}
use Rattle.sd_script.proofs.NumberLemmas.{last_of_packet, datagram_of_packet}
use Rattle.sd_script.proofs.drill.Drill.make_next.Goals as goal

pub invariant_of-self-clause-on_sequence : goal.invariant_of-self-clause-on_sequence
invariant_of-self-clause-on_sequence c =
    let numbers = c.after-numbers.ensures in
    last_of_packet c.args.self.now.next c.args.self.now.last _ _ _ _
    (record {
      last_is = c.args.self.now.on_sequence;
      first = numbers.counter;
      second = numbers.timer;
      third = numbers.gauge;
      fourth = numbers.set;
    })

pub returns-clause-text : goal.returns-clause-text
returns-clause-text c =
    let numbers = c.after-numbers.ensures in
    let j = c.args.self.now.next in
    let datagram =
    datagram_of_packet j c.args.self.now.last _ _ _ _
    (record {
      last_is = c.args.self.now.on_sequence;
      first = numbers.counter;
      second = numbers.timer;
      third = numbers.gauge;
      fourth = numbers.set;
    }) in
    text_appended c.args.self.now.packets j _ _ _ _ _
    (record {
      empty = c.clear.ensures;
      datagram_is = c.datagram.ensures.lines ∙ datagram;
      packet_is = c.push_packet.ensures.«record»;
      flush_is = c.push_flush_behind.ensures.records;
      end_is = c.push_end_behind.ensures;
    })

pub returns-clause-left : goal.returns-clause-left
returns-clause-left c =
    let n = c.args.self.now.packets in
    let j = c.args.self.now.next in
    ap (λ xs. xs ++ text_from n (j + 1)) (returns-clause-text c)
    ∙ sym (text_from_next n j c.requires.next)
    ∙ sym (ap (λ xs. xs ++ text_from n j) c.requires.given)
