use Rattle.std.proofs.Common.{◌≡◌, ◌∙◌, ℕ, ◌+◌, ◌*◌, ap, arith, flat_map, length, length-append, map}
use Rattle.std.specs.Prelude.{option_to_list}
use Rattle.std.proofs.lemmas.List.{length-map}
use Rattle.sd_plan.specs.Entries.{node_view}
use Rattle.sd_relay.specs.PostRooms.{IsFitted, wires_in}
use Rattle.sd_relay.proofs.PostLemmas.{by_recursion, runs_long}
use Rattle.sd_relay.proofs.postings.Postings.gather.Goals as goal

-- a run of wires for each of two kinds of workers
both_runs : (a b run : ℕ) → (a + b) * run ≡ a * run + b * run
both_runs a b run = grind arith

pub take_line_post-lines-requires-clause-wires : goal.take_line_post-lines-requires-clause-wires
take_line_post-lines-requires-clause-wires g c =
    let nodes = map node_view c.args.nodes.now in
    let run : ℕ = length c.args.nodes.now in
    let posts = c.gather.new.posts.items in
    let receivers : ℕ = length c.args.owns.now.receivers.items in
    let lines : ℕ = length (option_to_list c.args.owns.now.lines) in
    let count : length posts ≡ receivers = c.gather.ensures.len ∙ c.requires.postings.places in
    let long : length (flat_map wires_in posts) ≡ receivers * run =
    runs_long nodes posts (by_recursion (IsFitted nodes) posts c.gather.ensures.fitted) ∙ ap (λ n. n * length nodes) count
    ∙ ap (λ n. receivers * n) (length-map c.args.nodes.now node_view) in
    let split = ap length c.gather.ensures.wires ∙ length-append (flat_map wires_in posts) c.gather.new.wires.items in
    let enough = c.requires.wires in
    let both = both_runs receivers lines run in
    let line_readers : length (option_to_list c.args.self.lines) * run ≡ lines * run = ap (λ n. n * run) c.requires.postings.line_readers in
    omega (arith, long, split, enough, both, line_readers)

pub returns-clause-clear : goal.returns-clause-clear
returns-clause-clear g c most clear = (c.gather.ensures.clear most clear.0, c.take_line_post-lines.ensures.clear most clear.1)
