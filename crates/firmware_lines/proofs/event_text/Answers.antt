-- `firmware_lines::event_text` meets its contract.
-- Assumes nothing.
use Rattle.hex_digits.specs.Hex.{hex_line}
use Rattle.firmware_lines.specs.Lines.{event_text}
use Rattle.firmware_lines.proofs.event_text.Goals as goal

pub returns : goal.returns
unfolding event_text hex_line
returns c = simp (c.copy_from_slice.ensures.after, c.copy_from_slice-2.ensures.after, c.hex_line-w.ensures, c.hex_line-a.ensures)
