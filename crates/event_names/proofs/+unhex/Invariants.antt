-- The number of digits falls.
use Rattle.event_names.proofs.+unhex.Given as goal

abbrev pub decreases-unhex : goal.decreases-unhex
decreases-unhex l = l.n
