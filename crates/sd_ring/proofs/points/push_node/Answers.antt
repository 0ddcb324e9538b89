use Rattle.std.proofs.Common.{◌≡◌, ◌++◌, ◌∙◌, ap, sym, arith, append_assoc}
use Rattle.std.proofs.lemmas.List.{map-append}
use Rattle.sd_plan.specs.Entries.{node_view}
use Rattle.sd_model_ring.proofs.Points.{numbers_of_texts-more, points_of-is}
use Rattle.sd_ring.specs.Points.{words_of}
use Rattle.sd_ring.proofs.points.push_node.Goals as goal
use Rattle.sd_model_ring.proofs.Short.{numbers_of, numbers_of_texts, points_at, node_text}

pub loop-i-preserved : goal.loop-i-preserved
loop-i-preserved c =
    let node = node_view c.args.node.now in
    let before = numbers_of_texts node c.loop-i.i in
    let numbers = numbers_of (node_text node c.loop-i.i) in
    c.in_ok-push_digest.ensures ∙ ap (λ digest. c.loop-i.points.items ++ points_at c.args.place (words_of digest)) c.node_digest.ensures
    ∙ ap (λ points. points ++ points_at c.args.place numbers) c.loop-i.invariant
    ∙ append_assoc c.args.points.now.items (points_at c.args.place before) (points_at c.args.place numbers)
    ∙ ap (λ points. c.args.points.now.items ++ points)
    (sym (map-append (λ at. record { at = at; node = c.args.place }) before numbers) ∙ ap (points_at c.args.place) (sym (numbers_of_texts-more node c.loop-i.i)))

pub returns : goal.returns
returns c =
    let last : c.loop-i.i ≡ 40 = omega arith in
    c.loop-i.invariant
    ∙ ap (λ points. c.args.points.now.items ++ points)
    (ap (λ texts. points_at c.args.place (numbers_of_texts (node_view c.args.node.now) texts)) last ∙ sym (points_of-is c.args.place (node_view c.args.node.now)))
