-- The numbers of the clocks (document 01, "Event words"): that of 8 µs, the base clocks for TBS 0 and 1, that of the watchdog.
use Rattle.std.specs.Prelude.{ℕ}

abbrev pub period : ℕ
period = 0

abbrev pub base0 : ℕ
base0 = 1

abbrev pub base1 : ℕ
base1 = 2

abbrev pub watchdog : ℕ
watchdog = 3
