-- The cases of document 01 hold, computed from the definitions.
use mathlib.Core.Path.{refl}
use Rattle.rates.proofs.Hertz.{field_at_2000, interval_at_256}
use Rattle.chip_cases.specs.Cases.{table, Each, done, ◌also◌}
use Rattle.chip_cases.proofs.Opened.{opened}

-- for each row: the number, the answers, the claim
pub worked : Each table
unfolding opened table
worked =
    (refl, refl, tt)
    also (refl, refl, tt)
    also (refl, refl, tt)
    also (refl, refl, tt)
    also (refl, refl, tt)
    also (refl, refl, tt)
    also (refl, refl, refl)
    also (refl, refl, refl)
    also (refl, refl, tt)
    also (refl, refl, tt)
    also (refl, refl, tt)
    also (refl, refl, tt)
    also (refl, refl, field_at_2000)
    also (refl, refl, interval_at_256)
    also (refl, refl, tt)
    also done
