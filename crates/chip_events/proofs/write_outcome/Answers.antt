-- `chip_events::write_outcome` meets its contract.
-- Assumes nothing.
use mathlib.Core.Path.{◌≡◌, sym, ◌∙◌}
use mathlib.Core.Logic.{◌≢◌}
use Rattle.chip_writes.specs.Writes.{write_number}
use Rattle.chip_events.proofs.Write.{taken_core, taken_kept, refused_core, refused_kept}
use Rattle.chip_events.specs.Outcome.{outcome, core_after, kept_after, number_given, watchdog_reset, byte_given}
use Rattle.chip_events.proofs.write_outcome.Goals as goal

pub returns-then-number-eq0 : goal.returns-then-number-eq0
unfolding outcome core_after kept_after number_given watchdog_reset byte_given
returns-then-number-eq0 c =
    let e = c.args in
    let z : write_number e.c.reset e.a ≡ 0 = sym c.write_number-number.ensures ∙ c.if-number-eq0.true in
    simp (c.moved.ensures, c.stored.ensures, c.written.ensures, taken_core e.c e.registers.now e.a e.b z, taken_kept e.c e.registers.now e.a e.b z, z)

pub returns-else-number-eq0 : goal.returns-else-number-eq0
unfolding outcome core_after kept_after number_given watchdog_reset byte_given
returns-else-number-eq0 c =
    let e = c.args in
    let z : write_number e.c.reset e.a ≢ 0 = λ h. c.if-number-eq0.false (c.write_number-number.ensures ∙ h) in
    simp (c.moved-else-number-eq0.ensures, c.write_number-number.ensures, refused_core e.c e.registers.now e.a e.b z, refused_kept e.c e.registers.now e.a e.b z)
