use Rattle.std.proofs.Common.{ℕ, ◌<◌, [], ◌∷◌, length, map, refl, ap, subst, ◌∙◌, arith}
use Rattle.std.proofs.lemmas.List.{nil_from_length, length-map, map-append}
use Rattle.arrayvec.specs.ArrayVec.{ArrayVec}
use Rattle.sd_epoch.specs.Scratch.{texts}
use Rattle.sd_epoch.specs.declared.members.SetMember.{SetMember}
use Rattle.sd_epoch.proofs.ChainLemmas.{IsOfRow, element, taken_none, taken_more}
use Rattle.sd_epoch.proofs.members.Members.push_to.Goals as goal

pub loop-next-init : goal.loop-next-init
loop-next-init c = record {
  taken = taken_none _ _ _ _ _ _ _ _ c.requires.members.chain (ap texts (nil_from_length c.args.out.now.items (omega (arith, c.requires.empty, c.args.out.now.ok.0)))) c.last_at-next.ensures;
  capacity = refl;
}

pub loop-next-preserved : goal.loop-next-preserved
loop-next-preserved c =
    let entries = c.args.self.now.items.items in
    let here = subst (IsOfRow (map (λ (m : SetMember). m.place) entries) c.args.place) c.in-Some.is c.loop-next.invariant.taken.of_row in
    let within : c.in-Some.at < length entries = omega (arith, here.0, length-map entries (λ (x : SetMember). x.place)) in
    let d = element entries c.in-Some.at within in
    record {
      taken = taken_more _ _ _ _ _ _ _ _ c.requires.members.chain d _ _ _ _ c.loop-next.invariant.taken c.in-Some.is c.before-next.ensures (c.member_of.ensures ∙ c.member.ensures.bytes d)
          (ap texts c.push_reserved.ensures.items ∙ map-append (λ (m : ArrayVec ℕ). m.items) c.loop-next.out.items (c.member_of.result ∷ []));
      capacity = c.push_reserved.ensures.capacity ∙ c.loop-next.invariant.capacity;
    }
