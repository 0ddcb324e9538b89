use Rattle.std.proofs.Common.{◌≢◌, [], ◌∷◌, None, sym, ap, subst, ◌∙◌}
use Rattle.std.proofs.lemmas.List.{map-append}
use Rattle.sd_rows.specs.Rows.{row_at}
use Rattle.sd_epoch.specs.Members.{member_places}
use Rattle.sd_epoch.specs.Places.{AllLive}
use Rattle.sd_epoch.specs.Values.{value_places}
use Rattle.sd_epoch.specs.declared.members.SetMember.{SetMember}
use Rattle.sd_epoch.specs.declared.values.TimerValue.{TimerValue}
use Rattle.sd_epoch.proofs.PlaceLemmas.{AllLive-push}
use Rattle.sd_epoch.proofs.placing.list.Goals as goal

pub returns-in-Timer-clause-owned_values : goal.returns-in-Timer-clause-owned_values
returns-in-Timer-clause-owned_values c rows live owned =
    let old = c.args.values.now.items.items in
    let pushed = c.push.ensures.pushed in
    subst (AllLive rows) (sym (ap value_places pushed.items ∙ map-append (λ (v : TimerValue). v.place) old (pushed.more ∷ [])))
    (AllLive-push rows (value_places old) pushed.more.place owned (subst (λ p. row_at rows p ≢ None) (sym pushed.named) live))

pub returns-in-Set-clause-owned_members : goal.returns-in-Set-clause-owned_members
returns-in-Set-clause-owned_members c rows live owned =
    let old = c.args.members.now.items.items in
    let pushed = c.push-in-Set.ensures.pushed in
    subst (AllLive rows) (sym (ap member_places pushed.items ∙ map-append (λ (m : SetMember). m.place) old (pushed.more ∷ [])))
    (AllLive-push rows (member_places old) pushed.more.place owned (subst (λ p. row_at rows p ≢ None) (sym pushed.named) live))
