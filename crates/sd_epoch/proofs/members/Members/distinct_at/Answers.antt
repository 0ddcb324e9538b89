use Rattle.std.proofs.Common.{◌≡◌, ℕ, ◌+◌, cond, List, [], ◌∷◌, ◌++◌, get_or, take, length, ◌<◌, Option, sym, ap, subst, ◌∙◌, arith}
use Rattle.std.proofs.lemmas.List.{length-map, map-append}
use Rattle.sd_model_shard.specs.Values.{distinct}
use Rattle.sd_epoch.specs.Chain.{up_to}
use Rattle.sd_epoch.specs.Members.{member_places}
use Rattle.sd_epoch.specs.Since.{members_at, reported_members}
use Rattle.sd_epoch.specs.declared.members.SetMember.{SetMember}
use Rattle.sd_epoch.proofs.ChainLemmas.{IsOfRow, element, begins, goes_on}
use Rattle.sd_epoch.proofs.MemberLemmas.{among, distinct-push, distinct-none}
use Rattle.sd_epoch.proofs.members.Members.distinct_at.Goals as goal
use Rattle.sd_epoch.proofs.members.Members.distinct_at.Goals.{then-not-stands_before, else-not-stands_before}

pub loop-next-init : goal.loop-next-init
loop-next-init c =
    let at = begins (λ (m : SetMember). m.place) c.args.self.now.items.items _ _ c.args.place c.last_at-next.result c.requires.members.chain c.last_at-next.ensures in record {
      of_row = at.of_row;
      so_far = omega (arith, ap (λ (es : List SetMember). distinct (reported_members es)) at.all);
      few = omega (arith, at.few);
    }

pub stands_before-requires-clause-within : goal.stands_before-requires-clause-within
stands_before-requires-clause-within c =
    let here = subst (IsOfRow (member_places c.args.self.now.items.items) c.args.place) c.in-Some.is c.loop-next.invariant.of_row in
    omega (arith, here.0, length-map c.args.self.now.items.items (λ (m : SetMember). m.place))

pub stands_before-requires-clause-place : goal.stands_before-requires-clause-place
stands_before-requires-clause-place c =
    let here = subst (IsOfRow (member_places c.args.self.now.items.items) c.args.place) c.in-Some.is c.loop-next.invariant.of_row in here.1

-- how many members differ with one more
with_one : (own : List SetMember) (e : SetMember) → distinct (reported_members (own ++ e ∷ []))
    ≡ cond (among e.member.items (reported_members own)) (distinct (reported_members own)) (distinct (reported_members own) + 1)
with_one own e =
    ap distinct (map-append (λ (x : SetMember). x.member.items) own (e ∷ [])) ∙ distinct-push (reported_members own) e.member.items

pub loop-next-preserved : goal.loop-next-preserved
loop-next-preserved c =
    let inv = c.loop-next.invariant in
    let entries = c.args.self.now.items.items in
    let here = subst (IsOfRow (member_places entries) c.args.place) c.in-Some.is inv.of_row in
    let on = goes_on (λ (m : SetMember). m.place) entries _ _ c.args.place c.in-Some.at c.before-next.result c.requires.members.chain here c.before-next.ensures in
    let own = members_at c.args.place (take (up_to c.before-next.result) entries) in
    let within : c.in-Some.at < length entries = omega (arith, here.0, length-map entries (λ (x : SetMember). x.place)) in
    let d = element entries c.in-Some.at within in
    let e = get_or entries c.in-Some.at d in
    let n = distinct (reported_members own) in
    let so_far : c.loop-next.count + distinct (reported_members (own ++ e ∷ [])) ≡ distinct (reported_members (members_at c.args.place entries)) =
    ap (λ (es : List SetMember). c.loop-next.count + distinct (reported_members es)) (sym (on.more d))
    ∙ ap (λ (next : Option ℕ). c.loop-next.count + distinct (reported_members (members_at c.args.place (take (up_to next) entries)))) (sym c.in-Some.is)
    ∙ inv.so_far in
    let test : c.stands_before.result ≡ among e.member.items (reported_members own) =
    c.stands_before.ensures d ∙ ap (λ (es : List SetMember). among e.member.items (reported_members es)) on.before in
    let counts = with_one own e in
    elim c.if-not-stands_before.branch [
      | then-not-stands_before w ↦
          let is : distinct (reported_members (own ++ e ∷ [])) ≡ n + 1 = counts ∙ ap (λ b. cond b n (n + 1)) (sym test ∙ w.if-not-stands_before.true) in
          record { of_row = on.of_row; so_far = omega (arith, so_far, is, w.count-is); few = omega (arith, inv.few, on.few, ap up_to c.in-Some.is, w.count-is) }
      | else-not-stands_before w ↦
          let is : distinct (reported_members (own ++ e ∷ [])) ≡ n = counts ∙ ap (λ b. cond b n (n + 1)) (sym test ∙ w.if-not-stands_before.false) in
          record { of_row = on.of_row; so_far = omega (arith, so_far, is, w.count-is); few = omega (arith, inv.few, on.few, ap up_to c.in-Some.is, w.count-is) }
    ]

pub returns-clause-count : goal.returns-clause-count
returns-clause-count c =
    let inv = c.loop-next.invariant in
    omega (arith, inv.so_far, ap (λ (next : Option ℕ). distinct (reported_members (members_at c.args.place (take (up_to next) c.args.self.now.items.items)))) c.in_default.is, distinct-none)
