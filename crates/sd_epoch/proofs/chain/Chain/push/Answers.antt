use Rattle.std.proofs.Common.{◌≡◌, ◌∷◌, ◌++◌, [], get_or, length, set, Some, None, sym, ap, subst, ◌∙◌, arith}
use Rattle.std.proofs.lemmas.List.{length-map, map-set, get_or_read}
use Rattle.std.proofs.Math.ListN.{get_or-map}
use Rattle.sd_epoch.specs.Chain.{IsChain, link_of, links_of}
use Rattle.sd_epoch.specs.declared.chain.Link.{Link}
use Rattle.sd_epoch.proofs.LinkLemmas.{chained}
use Rattle.sd_epoch.proofs.chain.Chain.push.Goals as goal

pub returns-clause-chain : goal.returns-clause-chain
returns-clause-chain c places before n w =
    let links = c.args.self.now.last.items in
    let place = c.args.place in
    let none : Link = record { 0 = 0 } in
    let read : link_of c.index-before.result.now ≡ get_or (links_of links) place None =
    ap link_of (get_or_read links place c.index-before.result.now c.requires.within c.index-before.ensures none) ∙ sym (get_or-map link_of links place none) in
    let wrote : links_of (set links place c.to.result) ≡ set (links_of links) place (Some (length places)) =
    map-set link_of links place c.to.result ∙ ap (set (links_of links) place) (c.to.ensures ∙ ap Some (sym n)) in
    subst (λ ls. IsChain (places ++ place ∷ []) ls (before ++ link_of c.index-before.result.now ∷ [])) (sym wrote)
    (subst (λ o. IsChain (places ++ place ∷ []) (set (links_of links) place (Some (length places))) (before ++ o ∷ [])) (sym read)
    (chained places (links_of links) before place w (omega (arith, c.requires.within, length-map links link_of))))
