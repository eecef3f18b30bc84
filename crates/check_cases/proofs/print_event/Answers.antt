-- The text that `check_cases::print_event` prints is within its buffer.
-- Assumes nothing.
use Rattle.std.proofs.Common.{sym}
use Rattle.std.proofs.lemmas.List.{length-take-le}
use Rattle.case_text.proofs.Joining.{fits}
use Rattle.check_cases.proofs.print_event.Goals as goal

pub slice_bounds-line-end : goal.slice_bounds-line-end
slice_bounds-line-end g c = fits _ _ _ _ c.write_event-n.ensures.0 c.write_event-n.ensures.1

pub slice_bounds-write_all-end : goal.slice_bounds-write_all-end
slice_bounds-write_all-end g c =
    sym (length-take-le _ _ (fits _ _ _ _ c.write_event-n.ensures.0 c.write_event-n.ensures.1))
