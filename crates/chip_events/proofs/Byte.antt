-- The byte of an answer is a byte.
-- Assumes nothing.
use Prim.Native.Nat.{◌<◌}
use native.Mathlib.Omega.{arith}
use Rattle.std.specs.Prelude.{Ok, Err}
use Rattle.events.specs.Decoded.{Decoded}
use Rattle.events.specs.declared.Event.TheVariants.{Read, Write, Pin, Clock, Polarity}
use Rattle.chip.specs.declared.Chip.{Chip}
use Rattle.chip_reads.proofs.Bytes.{reading_byte_lt}
use Rattle.chip_events.specs.Outcome.{byte_given}

pub byte_lt : (c : Chip) (e : Decoded) → byte_given c e < 256
unfolding byte_given
byte_lt c (Ok (Read a)) = reading_byte_lt c a
byte_lt c (Ok (Write a b)) = omega arith
byte_lt c (Ok (Pin p level)) = omega arith
byte_lt c (Ok (Clock k)) = omega arith
byte_lt c (Ok (Polarity vertical level)) = omega arith
byte_lt c (Err r) = omega arith
