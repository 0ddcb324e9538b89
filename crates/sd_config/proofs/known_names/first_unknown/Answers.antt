use Rattle.std.proofs.Common.{◌≡◌, ◌∷◌, map, string_bytes, false, true, ◌∙◌, sym, ap}
use Rattle.std.proofs.lemmas.Map.Iter.{rest_more}
use Rattle.std.specs.Map.Iter.{deref}
use Rattle.std.specs.Option.{option_map}
use Rattle.sd_model_settings.specs.Settings.{shown, first_unknown}
use Rattle.sd_config.proofs.NameLists.{names-members, first_unknown-known, first_unknown-here, tells}
use Rattle.sd_config.proofs.known_names.first_unknown.Goals as goal

pub loop-name-init : goal.loop-name-init
loop-name-init c =
    ap (first_unknown c.args.prefix.now (map (λ k. k.now) c.args.known.now))
    (ap (map string_bytes) (c.into_iter-name-iterator.ensures.into_iter_gives ∙ c.keys-name-items.ensures.rest) ∙ sym (names-members c.args.table.now.entries))

pub returns-then-not-is_known : goal.returns-then-not-is_known
returns-then-not-is_known c =
    let known = map (λ k. k.now) c.args.known.now in
    let name = string_bytes c.in-Some.name.now in
    let first : c.loop-name.name-iterator ≡ c.in-Some.name.now ∷ c.next.new.self = rest_more deref _ _ _ _ c.in-Some.is c.next.ensures.steps in
    let rest = rw first at c.loop-name.invariant in
    let here = first_unknown-here c.args.prefix.now known name (map string_bytes c.next.new.self) (tells c.args.known.now _ name _ false c.as_str.ensures.value c.is_known.ensures c.if-not-is_known.true) in
    rw (c.shown.ensures, c.as_str-then-not-is_known.ensures.value) (ap (option_map shown) (sym here ∙ rest))

pub loop-name-preserved : goal.loop-name-preserved
loop-name-preserved c =
    let known = map (λ k. k.now) c.args.known.now in
    let name = string_bytes c.in-Some.name.now in
    let first : c.loop-name.name-iterator ≡ c.in-Some.name.now ∷ c.next.new.self = rest_more deref _ _ _ _ c.in-Some.is c.next.ensures.steps in
    let rest = rw first at c.loop-name.invariant in
    sym (first_unknown-known c.args.prefix.now known name (map string_bytes c.next.new.self) (tells c.args.known.now _ name _ true c.as_str.ensures.value c.is_known.ensures c.if-not-is_known.false)) ∙ rest
