use Rattle.std.proofs.Common.{ℕ, List, refl}
use Rattle.std.proofs.Math.Seq.{map-set_same}
use Rattle.sd_epoch.specs.declared.members.SetMember.{SetMember}
use Rattle.sd_epoch.proofs.members.chain_at.Goals as goal

pub returns-clause-items : goal.returns-clause-items
returns-clause-items c = map-set_same {B = ℕ × List ℕ} (λ (m : SetMember). (m.place, m.member.items)) c.args.members.now c.args.at _ c.index-members-at-2.result refl
