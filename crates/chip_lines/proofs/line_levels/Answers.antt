-- `chip_lines::line_levels` meets its contract.
-- Assumes nothing.
use Rattle.chip_lines.specs.Lines.{lines_report}
use Rattle.chip_lines.proofs.Cases.{lines_says}
use Rattle.chip_lines.proofs.line_levels.Goals as goal

pub returns-then-well_formed : goal.returns-then-well_formed
unfolding lines_report
returns-then-well_formed c = lines_says _ _ (simp (c.line_level-then-well_formed.ensures, c.line_level.ensures, c.scl_pulled-pulls_scl.ensures, c.sda_pulled-pulls_sda.ensures, c.register_at-latch.ensures, ← c.well_formed-2.ensures, c.if-well_formed.true)) (simp (← c.well_formed-2.ensures, c.if-well_formed.true))

pub returns-else-well_formed : goal.returns-else-well_formed
unfolding lines_report
returns-else-well_formed c = lines_says _ _ (simp (← c.well_formed-2.ensures, c.if-well_formed.false)) (simp (← c.well_formed-2.ensures, c.if-well_formed.false))
