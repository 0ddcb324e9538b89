use Rattle.std.proofs.Common.{◌≡◌, ℕ, Option, None, List, subst, sym, ap, ◌∙◌, arith}
use Rattle.sd_model_outside.specs.Outside.{put_back}
use Rattle.sd_script.proofs.ReaderLemmas.{reads_record}
use Rattle.sd_script.specs.Ahead.{held_in}
use Rattle.sd_script.specs.Reading.{Reading}
use Rattle.sd_script.specs.Reader.{lent_of, pending_of}
use Rattle.sd_script.specs.Found.{BeginsWith}
use Rattle.sd_script.specs.declared.reader.Reader.TheInside.{Inside}
use Rattle.sd_script.proofs.reader.Reader.next.Goals as goal
use Rattle.sd_script.proofs.reader.Reader.next.Goals.{After-next_record, in-Some, in_default}

-- once the body that was read last is let go, the bytes ahead are those that are pending
pub record IsAhead (old : Reading) (now : Inside) : Type 0 where
  pub pending : held_in now.ahead ≡ old.pending
  pub at : now.at ≡ old.at
  pub body : now.body ≡ None
  pub receivers : now.receivers ≡ old.receivers

is_ahead : (g : _) (c : After-next_record g) → IsAhead c.args.self.now c.match-self.self-inside
is_ahead g c = elim c.match-self.branch [
  | in-Some w ↦ record {
    pending =
        ap (λ (r : Inside). held_in r.ahead) w.self-inside-is ∙ w.take.ensures
        ∙ ap (λ (p : Option ℕ). pending_of p (held_in c.self.inside.ahead)) (sym w.in-Some.is)
        ∙ ap (λ (r : Reading). r.pending) c.self.view_is;
    at = ap (λ (r : Inside). r.at) w.self-inside-is ∙ ap (λ (r : Reading). r.at) c.self.view_is;
    body = ap (λ (r : Inside). r.body) w.self-inside-is;
    receivers = ap (λ (r : Inside). r.receivers) w.self-inside-is ∙ ap (λ (r : Reading). r.receivers) c.self.view_is;
  }
  | in_default w ↦ record {
    pending =
        ap (λ (r : Inside). held_in r.ahead) w.self-inside-is
        ∙ ap (λ (p : Option ℕ). pending_of p (held_in c.self.inside.ahead)) (sym w.in_default.is)
        ∙ ap (λ (r : Reading). r.pending) c.self.view_is;
    at = ap (λ (r : Inside). r.at) w.self-inside-is ∙ ap (λ (r : Reading). r.at) c.self.view_is;
    body = ap (λ (r : Inside). r.body) w.self-inside-is ∙ w.in_default.is;
    receivers = ap (λ (r : Inside). r.receivers) w.self-inside-is ∙ ap (λ (r : Reading). r.receivers) c.self.view_is;
  }
]

pub returns-clause-item : goal.returns-clause-item
returns-clause-item g c =
    let ahead = is_ahead g (goal.at.returns-clause-item g c).After-next_record in
    let held = held_in c.next_record.new.ahead in
    let had = (g.R.Faulty.seen c.args.script.now).content in
    let begins = subst (λ (n : ℕ). BeginsWith n c.in-Ok.found held) ahead.receivers (rw c.in-Ok.is at c.in_ok-found.ensures.prefix) in
    rw c.item_of.ensures
    (reads_record c.in-Ok.found held c.args.self.now _ had (g.R.Faulty.seen c.next_record.new.script).content c.pass-self-inside.result begins
    (c.in_ok-found.ensures.left_stays ∙ ap (λ (xs : List ℕ). put_back xs had) ahead.pending)
    c.pass-self-inside.ensures.body
    (ap (lent_of c.pass-self-inside.result) c.pass-self-inside.ensures.held)
    (ap (pending_of c.pass-self-inside.result) c.pass-self-inside.ensures.held)
    (omega (arith, ahead.at, c.pass-self-inside.ensures.at))
    ahead.receivers)
