use Rattle.std.proofs.Common.{rules, ◌≡◌, ◌↔◌, ◌<◌, ◌≤◌, ℕ, true, List, length, Option, Some, None, Ok, IsSome, IfSome, refl, sym, ap, ◌∙◌}
use Rattle.std.specs.List.{list_all}
use Rattle.sd_model_text.specs.Names.{clean, is_name_byte}
use Rattle.sd_key.proofs.CleanLemmas.{stands}
use Rattle.sd_key.proofs.cleaning.key_as_it_stands.Goals as goal

pub returns-clause-key : goal.returns-clause-key
returns-clause-key c = by_key c.of.result c.of.ensures.fits c.of.ensures.bytes where
  names : list_all is_name_byte c.args.name.now ≡ true
  names = search rules

  some : 0 < length c.args.name.now
  some = search rules

  by_key : (found : Option (List ℕ)) → IsSome found ↔ (length c.args.name.now ≤ 255) → IfSome found (λ key. key ≡ c.args.name.now) → IfSome found (λ key. clean c.args.name.now ≡ Ok key)
  by_key None fits is = tt
  by_key (Some key) fits is = stands c.args.name.now names some (fits.0 refl) ∙ ap Ok (sym is)
