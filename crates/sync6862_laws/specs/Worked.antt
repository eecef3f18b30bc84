-- Calls whose counts are computed.
use Rattle.std.specs.Prelude.{true, false, List, [], ◌∷◌, ◌++◌}
use Rattle.sync6862.specs.declared.Call.{Call}
use Rattle.sync6862.specs.declared.Call.TheVariants.{Hsynci, Clock, Enhsel, Hsel}

-- a pulse of HSYNCI
abbrev pub pulse : List Call
pulse = Hsynci false ∷ Hsynci true ∷ []

-- two pulses and a clock
abbrev pub field : List Call
field = pulse ++ (pulse ++ (Clock ∷ []))

-- ENHSEL 0, HSEL 0 and a pulse
abbrev pub short : List Call
short = Enhsel false ∷ Hsel false ∷ pulse
