use Rattle.std.proofs.Common.{◌≡◌, ◌∙◌, ℕ, ◌+◌, ◌-◌, List, [], ◌∷◌, ◌++◌, length, length-append, take, ap, arith, sym}
use Rattle.std.proofs.lemmas.List.{with_items_is}
use Rattle.sd_proxy.proofs.WaitingLemmas.{closed-more}
use Rattle.sd_proxy.proofs.waiting.Waiting.push.Goals as goal

pub returns : goal.returns
returns c most begun holds =
    let room = c.args.self.now.room in
    let line = c.args.line.now in
    let at = c.args.self.now.len in
    let put = c.put_line.ensures in
    let value = c.deref_mut.ensures.value in
    let len = put.len ∙ ap (λ (x : List ℕ). length x) value in
    let items = with_items_is room c.put_line.new.room (put.len ∙ c.deref_mut.ensures.len) in
    record {
      room = ap (λ (x : List ℕ). length x - 1) items ∙ ap (λ (n : ℕ). n - 1) len ∙ holds.room;
      text = ap (take (at + (length line + 1))) items ∙ ap (λ (n : ℕ). take n c.put_line.new.room) (let same : at + (length line + 1) ≡ at + length line + 1 = omega arith in same) ∙ put.text
          ∙ ap (λ (x : List ℕ). take at x ++ (line ++ 10 ∷ [])) value ∙ ap (λ (x : List ℕ). x ++ (line ++ 10 ∷ [])) holds.text ∙ sym (closed-more begun line);
      count = let before = holds.count in omega (arith, before, length-append begun (line ∷ []));
    }
