-- The number of digits falls.
use Rattle.line_text.proofs.+put.Given as goal

abbrev pub decreases-put : goal.decreases-put
decreases-put l = l.n
