-- The last event that took each flag of IRQX from 0 to 1 (document 02, Wish 3): told by IRQX and the mode before a word, and the
-- core after it.
use Rattle.std.specs.Prelude.{ℕ, Bool, not, ◌&&◌}
use Rattle.bits.specs.Byte.{pick, bit}
use Rattle.registers.specs.Names.{INTS, INTD, INTA, INTR, INTE, INTV}
use Rattle.bus.specs.declared.Mode.{Mode}
use Rattle.bus.specs.declared.Mode.TheVariants.{Off, Ddc1, Ddc2b}
use Rattle.bus.specs.declared.Comparison.{Comparison}
use Rattle.bus.specs.declared.Comparison.TheVariants.{None, Own}
use Rattle.bus.specs.Bus.{compared_in}
use Rattle.chip.specs.declared.Core.{Core}
use Rattle.why_last_set.specs.declared.Sort.{Sort}
use Rattle.why_last_set.specs.declared.Sort.TheVariants.{VsyncRise, P16Rise, Timer, MatchedAddress, NinthClock, Ddc1Load, SclFall}
use Rattle.why_last_set.specs.declared.Last.{Last}
use Rattle.why_last_set.specs.declared.Last.TheVariants.{Never, At}
use Rattle.why_last_set.specs.declared.LastSet.{LastSet}

-- the six sources, by their bits' names, in the order in which they are told
pub data Source : Type 0 where
  IntV IntE IntR IntA IntD IntS : Source

-- the bit of each in IRQX and IEX
abbrev pub bit_of : Source → ℕ
bit_of IntV = INTV
bit_of IntE = INTE
bit_of IntR = INTR
bit_of IntA = INTA
bit_of IntD = INTD
bit_of IntS = INTS

-- bit k goes from 0 to 1: a flag that is 1 already is not set by a second event
unfoldable pub goes_up : ℕ → ℕ → ℕ → Bool
goes_up k before after = not (bit k before) && bit k after

-- D has two sorts, and the mode before the event tells which: a load in DDC1, else the ninth clock of a byte
unfoldable pub byte_sort : Mode → Sort
byte_sort Off = NinthClock
byte_sort Ddc1 = Ddc1Load
byte_sort Ddc2b = NinthClock

-- a change stands in the place of the one before it
unfoldable pub last_at : Bool → ℕ → Sort → Last → Last
last_at up place sort last = pick up (At place sort) last

-- a matched address names the outcome of its comparison (Wish 12); with none there is no matched address
unfoldable pub address_at : Bool → ℕ → Comparison → Last → Last
address_at up place None last = last
address_at up place (Own matched) last = last_at up place (MatchedAddress matched) last

-- the last change of a source's flag, with the word at this place: IRQX and mode before it, the core after it. Each source but D
-- has one sort; the outcome of an address is that which the phase keeps just after it
unfoldable pub noted : Source → ℕ → ℕ → Mode → Core → Last → Last
noted IntV place irqx mode after last = last_at (goes_up INTV irqx after.irqx) place VsyncRise last
noted IntE place irqx mode after last = last_at (goes_up INTE irqx after.irqx) place P16Rise last
noted IntR place irqx mode after last = last_at (goes_up INTR irqx after.irqx) place Timer last
noted IntA place irqx mode after last = address_at (goes_up INTA irqx after.irqx) place (compared_in after.bus.phase) last
noted IntD place irqx mode after last = last_at (goes_up INTD irqx after.irqx) place (byte_sort mode) last
noted IntS place irqx mode after last = last_at (goes_up INTS irqx after.irqx) place SclFall last

-- ---- of all six

abbrev pub last_of : Source → LastSet → Last
last_of IntV l = l.v
last_of IntE l = l.e
last_of IntR l = l.r
last_of IntA l = l.a
last_of IntD l = l.d
last_of IntS l = l.s

unfoldable pub none_set : LastSet
none_set = record { v = Never; e = Never; r = Never; a = Never; d = Never; s = Never }

unfoldable pub all_noted : ℕ → ℕ → Mode → Core → LastSet → LastSet
all_noted place irqx mode after l =
    record {
      v = noted IntV place irqx mode after l.v;
      e = noted IntE place irqx mode after l.e;
      r = noted IntR place irqx mode after l.r;
      a = noted IntA place irqx mode after l.a;
      d = noted IntD place irqx mode after l.d;
      s = noted IntS place irqx mode after l.s;
    }
