-- `step::advance_word` meets its contract: the event of a common word is what the word decodes to, and moves the core alone.
-- Assumes nothing.
use Rattle.step.proofs.Words.{hsynci, period}
use Rattle.step.proofs.advance_word.Goals as goal

pub returns-in-Hsynci : goal.returns-in-Hsynci
returns-in-Hsynci c = simp (c.core_moved.ensures, c.pin_moved.ensures, ← c.decode-event.ensures.0, ← (rw c.in-Hsynci.is at c.common_of.ensures)) (hsynci _ _ _)

pub returns-in-Period : goal.returns-in-Period
returns-in-Period c = simp (c.core_moved-in-Period.ensures, c.clocked.ensures, c.register_at-btcon.ensures, ← c.decode-event.ensures.0, ← (rw c.in-Period.is at c.common_of.ensures)) (period _ _)
