use Rattle.std.proofs.Common.{◌≡◌, ◌<◌, map, inl, inr, ℕ, ◌+◌, ◌++◌, take, sym, ap, subst, ◌∙◌, arith, Some, None, slice_get, List, [], ◌∷◌, length, length-take}
use Rattle.std.proofs.lemmas.Bool.{cases_lt}
use Rattle.std.specs.List.{range_with_len}
use Rattle.sd_model_text.specs.Names.{Kind}
use Rattle.sd_admin.specs.Words.{names_of}
use Rattle.sd_model_record.specs.Replies.{Finish, Gone, reply_text, names_replied, replies_text}
use Rattle.sd_model_shard.specs.Shard.{State, Delete, after_delete, deletion_of}
use Rattle.sd_key.specs.Kind.{kind_of}
use Rattle.sd_shards.specs.Shards.{Group, AreAlike, group_bounds, state_at}
use Rattle.sd_admin.specs.Command.{command_view}
use Rattle.sd_command.specs.Commanded.{IsWritten, deleted, reported_of}
use Rattle.sd_admin.proofs.TakeLemmas.{take-more}
use Rattle.sd_command.proofs.CommandLemmas.{deleted-more, reported_at, replied-more, text-more, found_below, none_found, state_past, idle_delete, both_alike}
use Rattle.sd_command.proofs.command.delete.Goals as goal
use Rattle.sd_model_record.proofs.Short.{keys_reported}

pub overflow_add-i : goal.overflow_add-i
overflow_add-i g c =
    let names = names_of (command_view c.args.names.now) in
    let found : slice_get names c.loop-name.i ≡ Some c.in-Some.name = sym c.name.ensures ∙ c.in-Some.is in
    omega (arith, found_below names c.loop-name.i c.in-Some.name found, c.requires.few)

pub loop-name-smaller : goal.loop-name-smaller
loop-name-smaller g c =
    let names = names_of (command_view c.args.names.now) in
    let found : slice_get names c.loop-name.i ≡ Some c.in-Some.name = sym c.name.ensures ∙ c.in-Some.is in
    omega (arith, found_below names c.loop-name.i c.in-Some.name found)

-- what a deletion leaves of the shards, and beyond the last nothing
left_by : (kind : Kind) (name : List ℕ) (old new : Group) → ((k : ℕ) → k < length old.states → state_at new k ≡ after_delete kind name (state_at old k)) → AreAlike old new → (k : ℕ) → state_at new k ≡ after_delete kind name (state_at old k)
left_by kind name old new within alike k = elim (cases_lt k (length old.states)) [
  | inl below ↦ within k below
  | inr past ↦ state_past new k (omega (arith, past, alike.count)) ∙ sym (ap (after_delete kind name) (state_past old k past) ∙ idle_delete kind name)
]

pub loop-name-preserved : goal.loop-name-preserved
loop-name-preserved g c =
    let names = names_of (command_view c.args.names.now) in
    let kind = kind_of c.args.kind in
    let first = c.args.shards.now in
    let i = c.loop-name.i in
    let name = c.in-Some.name in
    let so_far = take i names in
    let stands = c.loop-name.invariant in
    let answers = reported_of first (map (Delete kind) names) in
    let found : slice_get names i ≡ Some name = sym c.name.ensures ∙ c.in-Some.is in
    let more = take-more names i name found in
    let text = replies_text (names_replied answers so_far) in
    let here : state_at c.loop-name.shards ≡ (λ k. deleted kind (state_at first k) so_far) = λ t k. stands.1 k t in
    let count : length so_far ≡ i = omega (arith, length-take i names, found_below names i name found) in
    let reported : text ++ reply_text (Gone name c.delete.new.keys.items) ≡ replies_text (names_replied answers (take (i + 1) names)) =
    ap (λ keys. text ++ reply_text (Gone name keys)) (
    c.delete.ensures.keys ∙ ap (λ n. keys_reported (map (λ k. deletion_of kind name (state_at c.loop-name.shards k)) (range_with_len 0 n))) stands.3.count
    ∙ ap (λ (states : ℕ → State). keys_reported (map (λ k. deletion_of kind name (states k)) (range_with_len 0 (length first.states)))) here
    ∙ ap keys_reported (sym (reported_at (group_bounds first) kind (state_at first) names i name found)))
    ∙ sym (text-more (names_replied answers so_far) (Gone name (keys_reported (answers i))))
    ∙ ap replies_text (ap (λ n. names_replied answers so_far ++ Gone name (keys_reported (answers n)) ∷ []) (sym count) ∙ sym (replied-more answers so_far name) ∙ ap (names_replied answers) (sym more)) in (
      omega (arith, found_below names i name found),
      (λ k. left_by kind name c.loop-name.shards c.delete.new.self c.delete.ensures.states c.delete.ensures.alike k ∙ ap (after_delete kind name) (stands.1 k) ∙ sym (deleted-more kind (state_at first k) so_far name) ∙ ap (deleted kind (state_at first k)) (sym more)),
      subst (λ t. IsWritten t c.tell-written.result (g.O.Faulty.seen c.args.output.now) (g.O.Faulty.seen c.tell-written.new.output)) reported (c.tell-written.ensures text (g.O.Faulty.seen c.args.output.now) stands.2),
      both_alike c.args.shards.now c.loop-name.shards c.delete.new.self stands.3 c.delete.ensures.alike,
      c.delete.ensures.room ∙ stands.4,
    )

pub returns-clause-states : goal.returns-clause-states
returns-clause-states g c k =
    let names = names_of (command_view c.args.names.now) in
    let none : slice_get names c.loop-name.i ≡ None = sym c.name.ensures ∙ c.in_default.is in
    c.loop-name.invariant.1 k ∙ ap (deleted (kind_of c.args.kind) (state_at c.args.shards.now k)) (none_found names c.loop-name.i none)

pub returns-clause-written : goal.returns-clause-written
returns-clause-written g c =
    let names = names_of (command_view c.args.names.now) in
    let replies = names_replied (reported_of c.args.shards.now (map (Delete (kind_of c.args.kind)) names)) in
    let none : slice_get names c.loop-name.i ≡ None = sym c.name.ensures ∙ c.in_default.is in
    let old = g.O.Faulty.seen c.args.output.now in
    let written = subst (λ ns. IsWritten (replies_text (replies ns)) c.loop-name.written old (g.O.Faulty.seen c.loop-name.output)) (none_found names c.loop-name.i none) c.loop-name.invariant.2 in
    subst (λ t. IsWritten t c.tell.result old (g.O.Faulty.seen c.tell.new.output)) (sym (text-more (replies names) Finish)) (c.tell.ensures (replies_text (replies names)) old written)
