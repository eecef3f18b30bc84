-- `vcd_steps::advance` meets its contract.
-- Assumes nothing.
use Rattle.vcd_steps.specs.Steps.{advanced, meaning}
use Rattle.vcd_steps.proofs.Times.{fits_of, above}
use native.Mathlib.Omega.{arith}
use borrow.Author.Tests.{lt-ltb, le-ltb}
use borrow.Author.Rules.{rules}
use Rattle.vcd_steps.proofs.advance.Goals as goal

pub returns-then-time-s : goal.returns-then-time-s
unfolding advanced meaning
returns-then-time-s c = simp (lt-ltb _ _ c.if-time-s.true)

pub returns-then-time-scale : goal.returns-then-time-scale
unfolding advanced meaning
returns-then-time-scale c = simp (le-ltb _ _ (above _ _ (search rules) c.if-time-scale.true), le-ltb _ _ c.if-time-s.false)

pub overflow_mul-time : goal.overflow_mul-time
unfolding advanced meaning
overflow_mul-time c = record { fits = omega (arith, fits_of _ _ (search rules) c.if-time-scale.false) }

pub at_time-requires : goal.at_time-requires
unfolding advanced meaning
at_time-requires c = search rules

pub returns : goal.returns
unfolding advanced meaning
returns c =
    let scaled = fits_of _ _ (search rules) c.if-time-scale.false in simp (c.at_time.ensures, lt-ltb _ _ scaled, le-ltb _ _ c.if-time-s.false)
