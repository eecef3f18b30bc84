-- The number of digits falls.
use Rattle.event_names.proofs.+hex.Given as goal

abbrev pub decreases-hex : goal.decreases-hex
decreases-hex l = l.n
