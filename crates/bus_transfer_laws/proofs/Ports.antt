-- Every pin of the ports reads as the table says, computed from the definitions.
-- Assumes nothing.
use mathlib.Core.Path.{◌≡◌, refl}
use mathlib.Core.Bool.{true}
use Rattle.bus_transfer_laws.specs.Ports.{port_pins, pin_reads, port_words, reads_right, read_right}
use Rattle.bus_transfer_laws.proofs.Opened.{opened}

pub ports_read : read_right port_pins ≡ true
unfolding opened port_pins pin_reads port_words reads_right
ports_read = refl
