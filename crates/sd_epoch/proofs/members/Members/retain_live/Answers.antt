use Rattle.std.proofs.Common.{List, sym, subst, ◌∙◌, arith}
use Rattle.sd_epoch.specs.Places.{AllLive}
use Rattle.sd_epoch.specs.Members.{member_places}
use Rattle.sd_epoch.specs.declared.members.SetMember.{SetMember}
use Rattle.sd_epoch.proofs.LeftLemmas.{all_owned, owned_within}
use Rattle.sd_epoch.proofs.members.Members.retain_live.Goals as goal

pub chain_anew-requires-clause-within : goal.chain_anew-requires-clause-within
chain_anew-requires-clause-within c i d lt =
    let rows = c.args.rows.now.rows in
    let owned = subst (λ (es : List SetMember). AllLive rows (member_places es)) (sym (c.deref_mut.ensures.value ∙ c.drop_members.ensures.members)) (all_owned (λ (m : SetMember). m.place) rows c.args.self.now.items.items) in
    omega (arith, owned_within (λ (m : SetMember). m.place) rows c.deref_mut.result.now owned i d lt, c.requires.places)
