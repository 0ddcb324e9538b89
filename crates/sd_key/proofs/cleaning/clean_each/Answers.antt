-- One more byte of the name, and what is left of the whole name.
use Rattle.std.proofs.Common.{◌≡◌, ◌<◌, ◌≤◌, ◌++◌, length, take, arith, Ok, ap, sym, ◌∙◌, ◌≢◌}
use Rattle.std.proofs.lemmas.Bool.{eqb-true, eqb-false}
use Rattle.std.proofs.lemmas.List.{append-nil, take_more, take_all, length_push}
use Rattle.std.specs.Option.{option_to_list}
use Rattle.sd_model_text.specs.Names.{cleaned}
use Rattle.sd_model_text.proofs.NamesLemmas.{as_key-fits}
use Rattle.sd_key.specs.Clean.{ends_blank}
use Rattle.sd_key.proofs.CleanLemmas.{ends_blank-push, take-push_room, take-push_full}
use Rattle.sd_key.proofs.cleaning.clean_each.Goals as goal
use Rattle.sd_key.proofs.cleaning.clean_each.Goals.{in-Some+then-not-is_full, in-Some+else-not-is_full, in_default}

pub loop-b-preserved : goal.loop-b-preserved
loop-b-preserved c =
    let prefix = take c.loop-b.b-index c.args.name.now in
    let more = take_more c.args.name.now c.loop-b.b-index 0 c.loop-b-test.true in
    let adds = ap cleaned more ∙ c.kept.ensures prefix (sym c.loop-b.invariant.blank) in
    let blank = c.is_white_space-after_blank.ensures ∙ sym (ap ends_blank more ∙ ends_blank-push prefix _) in
    elim c.match-kept.branch [
      | in-Some+then-not-is_full w ↦
          let grown = adds ∙ ap (λ o. cleaned prefix ++ option_to_list o) w.in-Some.is in
          let longer = ap length grown ∙ length_push (cleaned prefix) w.in-Some.byte in
          let apart : length c.loop-b.bytes.items ≢ 255 = eqb-false _ _ (sym w.is_full.ensures.value ∙ w.if-not-is_full.true) in
          let within : length c.loop-b.bytes.items ≤ 255 = w.is_full.ensures.fits in
          let room : length (take 255 (cleaned prefix)) < 255 = omega (arith, ap length c.loop-b.invariant.first) in
          let next = take-push_room 255 (cleaned prefix) w.in-Some.byte room in
          record { first = cc; len = omega arith; short = omega arith; blank = blank }
      | in-Some+else-not-is_full w ↦
          let grown = adds ∙ ap (λ o. cleaned prefix ++ option_to_list o) w.in-Some.is in
          let longer = ap length grown ∙ length_push (cleaned prefix) w.in-Some.byte in
          let full : length c.loop-b.bytes.items ≡ 255 = eqb-true _ _ (sym w.is_full.ensures.value ∙ w.if-not-is_full.false) in
          let next = take-push_full 255 (cleaned prefix) w.in-Some.byte (ap length (sym c.loop-b.invariant.first) ∙ full) in
          record { first = cc; len = omega arith; short = omega arith; blank = blank }
      | in_default w ↦
          let same = adds ∙ ap (λ o. cleaned prefix ++ option_to_list o) w.in_default.is ∙ append-nil (cleaned prefix) in
          record { first = cc; len = omega (arith, ap length same); short = omega arith; blank = blank }
    ]

pub returns-else-len-capacity-clause-ok : goal.returns-else-len-capacity-clause-ok
returns-else-len-capacity-clause-ok c =
    let whole = ap cleaned (take_all c.loop-b.b-index c.args.name.now c.loop-b-test.false) in
    let short : length (cleaned c.args.name.now) ≤ 255 = omega (arith, ap length whole) in
    let some : 0 < length (cleaned c.args.name.now) = omega (arith, ap length whole) in
    let bytes =
    c.from_bytes.ensures ∙ c.loop-b.invariant.first ∙ ap (take 255) whole ∙ take_all 255 (cleaned c.args.name.now) short in
    as_key-fits (cleaned c.args.name.now) some short ∙ ap Ok (sym bytes)
