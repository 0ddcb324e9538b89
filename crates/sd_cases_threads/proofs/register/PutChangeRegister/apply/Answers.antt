use Rattle.std.proofs.Common.{rules, ◌≡◌, ◌+◌, ◌%◌, ◌^◌, [], ◌∷◌, ◌++◌, sym, ap, ◌∙◌}
use Rattle.sd_turn.proofs.Totals.{map-push}
use Rattle.sd_cases_threads.specs.declared.register.Event.{Event}
use Rattle.sd_cases_threads.specs.Puts.{event}
use Rattle.sd_cases_threads.proofs.PutLists.{sum_after-snoc, IsLegal-snoc}
use Rattle.sd_cases_threads.proofs.register.PutChangeRegister.apply.Goals as goal

pub returns-clause-stands : goal.returns-clause-stands
returns-clause-stands c = λ log s.
    let e = event c.args.number c.args.self.now.more c.args.value.now.sum in
    let left : c.note.new.self.sum ≡ (c.args.value.now.sum + c.args.self.now.more) % 2 ^ 64 = search rules in (
      left ∙ ap (λ k. (k + c.args.self.now.more) % 2 ^ 64) s.0 ∙ sym (sum_after-snoc 0 log e),
      IsLegal-snoc 0 log e s.1 s.0,
      λ kept.
          let noted = c.note.ensures.log kept in
          noted.1 ∙ ap (λ l. l ++ c.args.number ∷ []) (s.2 noted.0) ∙ sym (map-push (λ (x : Event). x.who) log e),
    )
