use Rattle.std.proofs.Common.{◌≡◌, List, [], ◌∷◌, ◌++◌, Option, Some, map, reverse, sym, ap, subst, ◌∙◌, append_assoc, arith}
use Rattle.std.specs.Prelude.{All}
use Rattle.std.specs.Option.{option_to_list}
use Rattle.std.proofs.lemmas.List.{map-append, reverse-append}
use Rattle.std.proofs.lemmas.List.Elements.{All-pop, All-push}
use Rattle.sd_rows.specs.declared.row.Row.{Row}
use Rattle.sd_epoch.specs.Table.{Listing}
use Rattle.sd_shard.specs.Tables.{IsSpare, IsWithin}
use Rattle.sd_shard.proofs.spares.move_back.Goals as goal

pub loop-table-preserved : goal.loop-table-preserved
loop-table-preserved c =
    let inv = c.loop-table.invariant in
    let places : Listing → List (Option Row) = λ t. t.places in
    let spares = c.loop-table.spares.items in
    let rest = c.pop.new.self.items in
    let table = c.in-Some.table in
    let popped : c.loop-table.swapped.items ≡ rest ++ table ∷ [] = c.pop.ensures.items ∙ ap (λ (o : _). rest ++ option_to_list o) c.in-Some.is in
    record {
      count = omega (arith, c.in-Some.ensures.cases);
      spares = λ limits given swapped.
          let within = (All-pop (IsWithin limits) c.loop-table.swapped.items rest (Some table) popped (inv.swapped limits swapped)).1 in
          subst (All (IsSpare limits)) (sym c.push_reserved.ensures.items)
          (All-push (IsSpare limits) spares c.into_spare.result (inv.spares limits given swapped)
          (record { limits = c.into_spare.ensures.limits ∙ within.limits; no_samples = c.into_spare.ensures.no_samples; no_entries = c.into_spare.ensures.no_entries }));
      swapped = λ limits swapped. (All-pop (IsWithin limits) c.loop-table.swapped.items rest (Some table) popped (inv.swapped limits swapped)).0;
      turned = ap (λ (ts : List Listing). map places ts ++ reverse (map places rest)) c.push_reserved.ensures.items
          ∙ ap (λ (ps : List (List (Option Row))). ps ++ reverse (map places rest)) (map-append places spares (c.into_spare.result ∷ []))
          ∙ ap (λ (p : List (Option Row)). (map places spares ++ p ∷ []) ++ reverse (map places rest)) c.into_spare.ensures.places
          ∙ append_assoc (map places spares) (table.places ∷ []) (reverse (map places rest))
          ∙ ap (λ (ps : List (List (Option Row))). map places spares ++ ps)
          (sym (ap (λ (ts : List Listing). reverse (map places ts)) popped ∙ ap reverse (map-append places rest (table ∷ [])) ∙ reverse-append (map places rest) (table.places ∷ [])))
          ∙ inv.turned;
      room = c.push_reserved.ensures.capacity ∙ inv.room;
      swapped_room = c.pop.ensures.capacity ∙ inv.swapped_room;
    }
