use Rattle.std.proofs.Common.{◌≡◌, ℕ, Bool, true, false, ◌||◌, List, [], ◌∷◌, ◌++◌, get_or, take, map, length, ◌<◌, Option, None, refl, sym, ap, subst, ◌∙◌, arith}
use Rattle.std.specs.Ordering.{nat_cmp, is_eq}
use Rattle.std.specs.Cmp.Lexicographic.{slice_cmp}
use Rattle.std.proofs.lemmas.List.{length-map, map-append}
use Rattle.sd_epoch.specs.Chain.{up_to}
use Rattle.sd_epoch.specs.Members.{member_places, members_before}
use Rattle.sd_epoch.specs.Since.{members_at, reported_members}
use Rattle.sd_epoch.specs.declared.members.SetMember.{SetMember}
use Rattle.sd_epoch.proofs.ChainLemmas.{IsOfRow, element, goes_on, any-push}
use Rattle.sd_epoch.proofs.MemberLemmas.{among}
use Rattle.sd_epoch.proofs.members.Members.stands_before.Goals as goal

-- a member is among those of entries and one more where it is among them, or that of the one more
among-more : (m : List ℕ) (own : List SetMember) (e : SetMember) → among m (reported_members (own ++ e ∷ [])) ≡ (among m (reported_members own) || is_eq (slice_cmp nat_cmp m e.member.items))
among-more m own e =
    ap (among m) (map-append (λ (x : SetMember). x.member.items) own (e ∷ []))
    ∙ any-push (λ other. is_eq (slice_cmp nat_cmp m other)) (reported_members own) e.member.items

or_true : (b : Bool) → (b || true) ≡ true
or_true true = refl
or_true false = refl

or_false : (b : Bool) → (b || false) ≡ b
or_false true = refl
or_false false = refl

pub loop-next-init : goal.loop-next-init
loop-next-init c =
    let on = goes_on (λ (m : SetMember). m.place) c.args.self.now.items.items _ _ c.args.place c.args.at c.before-next.result c.requires.members.chain (omega (arith, c.requires.within, length-map c.args.self.now.items.items (λ (m : SetMember). m.place)), c.requires.place) c.before-next.ensures in
    record { of_row = on.of_row; among = ap (λ (es : List SetMember). among c.member-member.result.now (map (λ (x : SetMember). x.member.items) es)) on.before }

pub loop-next-preserved : goal.loop-next-preserved
loop-next-preserved c =
    let inv = c.loop-next.invariant in
    let entries = c.args.self.now.items.items in
    let m = c.member-member.result.now in
    let here = subst (IsOfRow (member_places entries) c.args.place) c.in-Some.is inv.of_row in
    let within : c.in-Some.other < length entries = omega (arith, here.0, length-map entries (λ (x : SetMember). x.place)) in
    let d = element entries c.in-Some.other within in
    let e = get_or entries c.in-Some.other d in
    let test : c.is_member.result ≡ is_eq (slice_cmp nat_cmp m e.member.items) = c.is_member.ensures ∙ ap (λ other. is_eq (slice_cmp nat_cmp m other)) (c.member.ensures.bytes d) in
    let on = goes_on (λ (m : SetMember). m.place) entries _ _ c.args.place c.in-Some.other c.before-next-in-Some.result c.requires.members.chain here c.before-next-in-Some.ensures in
    let own = members_at c.args.place (take (up_to c.before-next-in-Some.result) entries) in record {
      of_row = on.of_row;
      among = inv.among ∙ ap (λ (next : Option ℕ). among m (reported_members (members_at c.args.place (take (up_to next) entries)))) c.in-Some.is
          ∙ ap (λ (es : List SetMember). among m (map (λ (x : SetMember). x.member.items) es)) (on.more d)
          ∙ among-more m own e ∙ ap (λ b. among m (reported_members own) || b) (sym test ∙ c.if-is_member.false)
          ∙ or_false (among m (reported_members own));
    }

pub returns-then-is_member : goal.returns-then-is_member
returns-then-is_member c x =
    let inv = c.loop-next.invariant in
    let entries = c.args.self.now.items.items in
    let m = c.member-member.result.now in
    let here = subst (IsOfRow (member_places entries) c.args.place) c.in-Some.is inv.of_row in
    let within : c.in-Some.other < length entries = omega (arith, here.0, length-map entries (λ (x : SetMember). x.place)) in
    let d = element entries c.in-Some.other within in
    let e = get_or entries c.in-Some.other d in
    let test : c.is_member.result ≡ is_eq (slice_cmp nat_cmp m e.member.items) = c.is_member.ensures ∙ ap (λ other. is_eq (slice_cmp nat_cmp m other)) (c.member.ensures.bytes d) in
    let on = goes_on (λ (m : SetMember). m.place) entries _ _ c.args.place c.in-Some.other (get_or (members_before c.args.self.now.items.items) c.in-Some.other None) c.requires.members.chain here refl in
    let own = members_at c.args.place (take (up_to (get_or (members_before c.args.self.now.items.items) c.in-Some.other None)) entries) in
    let is_m : m ≡ (get_or entries c.args.at x).member.items = c.member-member.ensures.bytes x in
    sym (ap (λ (k : List ℕ). among k (reported_members (members_at c.args.place (take c.args.at entries)))) (sym is_m)
    ∙ inv.among ∙ ap (λ (next : Option ℕ). among m (reported_members (members_at c.args.place (take (up_to next) entries)))) c.in-Some.is
    ∙ ap (λ (es : List SetMember). among m (map (λ (x : SetMember). x.member.items) es)) (on.more d)
    ∙ among-more m own e ∙ ap (λ b. among m (reported_members own) || b) (sym test ∙ c.if-is_member.true)
    ∙ or_true (among m (reported_members own)))
