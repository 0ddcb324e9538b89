use Rattle.std.proofs.Common.{arith}
use Rattle.sd_model_outside.specs.Uses.{Written, Fault}
use Rattle.sd_outlet.proofs.WorkedLemmas.{one_more, written_used, fault_used}
use Rattle.sd_outlet.proofs.worked.Worked.write.Goals as goal

pub returns-in_default : goal.returns-in_default
returns-in_default g c = λ texts first h. one_more Fault c.args.text.now texts c.args.self.now _ first _ _ h fault_used c.in_default.ensures.failed (omega (arith, h.written)) (omega (arith, h.faults, c.saturating_add-self.ensures))

pub returns : goal.returns
returns g c = λ texts first h. one_more Written c.args.text.now texts c.args.self.now _ first _ _ h written_used c.in-Ok.ensures.ok (omega (arith, h.written, c.saturating_add-self-2.ensures)) (omega (arith, h.faults))
