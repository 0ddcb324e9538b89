use Rattle.std.proofs.Common.{is_some, rules}
use Rattle.std.proofs.lemmas.Fn.{filter_same}
use Rattle.sd_rows.specs.Rows.{row_at}
use Rattle.sd_epoch.specs.declared.members.SetMember.{SetMember}
use Rattle.sd_epoch.proofs.members.drop_members.Goals as goal

pub returns-clause-members : goal.returns-clause-members
returns-clause-members c = filter_same _ (λ (m : SetMember). is_some (row_at c.args.rows.now.rows m.place)) _ (λ x b f' k. search rules) _ _ c.retain.ensures.filtered
