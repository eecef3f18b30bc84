-- `vcd_body::Reader::short_time` meets its contract.
-- Assumes nothing.
use native.Mathlib.Omega.{arith}
use Rattle.vcd_steps.proofs.Times.{fits_of}
use Rattle.vcd_body.proofs.Running.{time_advances}
use Rattle.vcd_body.proofs.Reader.short_time.Goals as goal

pub overflow_mul-d : goal.overflow_mul-d
overflow_mul-d c = record { fits = omega (arith, fits_of c.read_digits-d.result.value c.args.self.now.scale c.requires.scale_nonzero (rw (← (c.requires.tables.limit c.requires.scale_nonzero)) c.if-self-d.false)) }

pub returns : goal.returns
returns c =
    let a = c.args in
    let d = c.read_digits-d in
    λ find from.
    c.give_clocks.ensures find a.self.now.scale a.self.now.text.now a.p (time_advances find a.self.now.scale a.self.now.text.now a.run a.p d.result.end d.result.value from c.requires.p_in_bounds.0 c.requires.p_in_bounds.1 (omega (arith, d.ensures.0, c.if-d-p.false)) (d.ensures.1 (omega (arith, d.ensures.0, c.if-d-p.false))).0 (d.ensures.1 (omega (arith, d.ensures.0, c.if-d-p.false))).1 c.requires.scale_nonzero c.if-d-run.false (rw (← (c.requires.tables.limit c.requires.scale_nonzero)) c.if-self-d.false))
