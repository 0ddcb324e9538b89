use Rattle.std.proofs.Common.{◌+◌, ◌-◌, length, take, drop, length-drop, refl, arith}
use Rattle.std.proofs.lemmas.List.{take_all}
use Rattle.sd_edge.proofs.NewlineLemmas.{put_none, put_some}
use Rattle.sd_edge.proofs.line_buffer.put_behind.Goals as goal

pub returns-in-Some-clause-held : goal.returns-in-Some-clause-held
returns-in-Some-clause-held c =
    let bytes = c.args.bytes.now in
    let n = c.in-Some.last + 1 in
    put_some c.args.ready.now.items c.args.rest.now.items bytes c.args.line c.args.is_cut c.in-Some.last c.end_line.new.ready.items c.end_line.new.rest.items (take n bytes) (take (length bytes - n) (drop n bytes)) _ c.in-Some.ensures refl (take_all (length bytes - n) (drop n bytes) (omega (arith, length-drop n bytes))) c.end_line.ensures.ready c.end_line.ensures.none c.go_on.ensures.held

pub returns-in-None-clause-held : goal.returns-in-None-clause-held
returns-in-None-clause-held c = put_none c.args.ready.now.items c.args.rest.now.items c.args.bytes.now c.args.line c.args.is_cut _ c.in-None.ensures c.go_on-in-None.ensures.held
