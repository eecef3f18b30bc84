-- The number of digits falls.
use Rattle.wave_write.proofs.+digits.Given as goal

abbrev pub decreases-digits : goal.decreases-digits
decreases-digits l = l.k
