use borrow.Author.Tests.{lt-ltb, le-ltb, eq-eqb, ne_eqb}
use mathlib.Core.Path.{refl}
use Rattle.firmware_machine.specs.Run.{firmware}
use borrow.Author.Rules.{rules}
use Rattle.firmware_run.proofs.run.Goals as goal

pub is_well_formed-requires : goal.is_well_formed-requires
unfolding firmware
is_well_formed-requires c = search rules

pub not_run-requires : goal.not_run-requires
unfolding firmware
not_run-requires c = search rules

pub run_all-requires : goal.run_all-requires
unfolding firmware
run_all-requires c = search rules

pub not_run-requires-else-rom-eq24576 : goal.not_run-requires-else-rom-eq24576
unfolding firmware
not_run-requires-else-rom-eq24576 c = search rules

pub not_run-requires-else-is_well_formed : goal.not_run-requires-else-is_well_formed
unfolding firmware
not_run-requires-else-is_well_formed c = search rules

pub returns-then-answers-events : goal.returns-then-answers-events
unfolding firmware
returns-then-answers-events c = simp (c.not_run.ensures, lt-ltb _ _ c.if-answers-events.true, eq-eqb _ _ c.if-rom-eq24576.true, ← c.is_well_formed.ensures, c.if-is_well_formed.true) (refl, refl, refl)

pub returns-else-answers-events : goal.returns-else-answers-events
unfolding firmware
returns-else-answers-events c = simp (le-ltb _ _ c.if-answers-events.false, eq-eqb _ _ c.if-rom-eq24576.true, ← c.is_well_formed.ensures, c.if-is_well_formed.true) c.run_all.ensures

pub returns-else-rom-eq24576 : goal.returns-else-rom-eq24576
unfolding firmware
returns-else-rom-eq24576 c = simp (c.not_run-else-rom-eq24576.ensures, ne_eqb _ _ c.if-rom-eq24576.false, ← c.is_well_formed.ensures, c.if-is_well_formed.true) (refl, refl, refl)

pub returns-else-is_well_formed : goal.returns-else-is_well_formed
unfolding firmware
returns-else-is_well_formed c = simp (c.not_run-else-is_well_formed.ensures, ← c.is_well_formed.ensures, c.if-is_well_formed.false) (refl, refl, refl)
