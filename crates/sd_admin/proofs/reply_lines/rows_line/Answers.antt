use Rattle.std.proofs.Common.{◌≡◌, ◌-◌, length, map, slice_get, Option, Some, sym, ap, ◌∙◌, arith}
use Rattle.std.specs.Option.{option_map}
use Rattle.std.proofs.lemmas.List.{length-map}
use Rattle.std.proofs.lemmas.Option.{slice_get-map}
use Rattle.sd_model_text.specs.Names.{Kind}
use Rattle.sd_model_text.proofs.Places.{get_prefix, get_behind}
use Rattle.sd_model_record.specs.Replies.{end_lines}
use Rattle.sd_key.specs.Kind.{kind_of}
use Rattle.sd_shard.specs.Dump.{DumpList, dump_row_of, rows_of}
use Rattle.sd_shard.specs.declared.dump.DumpRow.{DumpRow}
use Rattle.sd_admin.proofs.reply_lines.rows_line.Goals as goal
use Rattle.sd_model_record.proofs.Short.{row_line}

-- there is a line for each row
lines_len : (kind : Kind) (dump : DumpList) → length dump.items ≡ length (map (row_line kind) (rows_of dump))
lines_len kind dump = sym (length-map (rows_of dump) (row_line kind) ∙ length-map dump.items dump_row_of)

pub returns-then-place-len : goal.returns-then-place-len
returns-then-place-len c =
    let kind = kind_of c.args.kind in
    let dump = c.args.dump.now in
    let place = c.args.place in
    ap Some c.row_line.ensures ∙ ap (λ (o : Option DumpRow). option_map (row_line kind) (option_map dump_row_of o)) (sym c.get.ensures)
    ∙ sym (get_prefix (map (row_line kind) (rows_of dump)) end_lines place (omega (arith, lines_len kind dump)) ∙ slice_get-map (row_line kind) (rows_of dump) place
    ∙ ap (option_map (row_line kind)) (slice_get-map dump_row_of dump.items place))

pub returns-else-place-len : goal.returns-else-place-len
returns-else-place-len c =
    let kind = kind_of c.args.kind in
    let dump = c.args.dump.now in
    let place = c.args.place in
    c.end_line.ensures ∙ ap (λ n. slice_get end_lines (place - n)) (c.len-else-place-len.ensures.len ∙ lines_len kind dump)
    ∙ sym (get_behind (map (row_line kind) (rows_of dump)) end_lines place (omega (arith, lines_len kind dump, c.len.ensures.len, c.if-place-len.false)))
