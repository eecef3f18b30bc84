-- Rules of document 01 and of Wish 2, a row a rule: words that tell the rule from its neighbours, with the answers that the document gives.
-- The answers are written by hand from the document, in its order; they are a second writing of the rules, beside the definitions.
use Rattle.std.specs.Prelude.{ℕ, zero, suc, ◌+◌, ◌-◌, Bool, true, false, not, ◌&&◌, List, [], ◌∷◌, ◌++◌, eqb, length, replicate, Ok}
use Rattle.registers.specs.Names.{PT0, PT1, PT2DIR, PT2, PT3, MDCON, HVCON, HCNTL, HCNTH, VCNTL, VCNTH, SYNCON, ENDAC, AD0, AD1, IEX, IRQX, CLRFLG, CLRWDT, IIADR, IIDAT, IISTS, BT, BTCON, DACH0}
use Rattle.events.specs.declared.Event.TheVariants.{Polarity}
use Rattle.events.specs.Word.{encode}
use Rattle.events.specs.Pins.{P16, SDA, SCL, HSYNCI, VSYNCI, RESET}
use Rattle.events.specs.Clocks.{period, base0, base1, watchdog}
use Rattle.bus.specs.Bus.{sda_pulled, scl_pulled}
use Rattle.chip.specs.declared.Core.{Core}
use Rattle.chip.specs.declared.Chip.{Chip}
use Rattle.chip.specs.State.{fresh, chip_of, with_sync, with_watchdog, mode_of}
use Rattle.list_call.specs.Run.{run, run_answers}
use Rattle.chip_cases.specs.Words.{times, read, write, high, low, clock, pulse, start, send}

-- ---- a rule: a first state, and what is seen from there on

-- a list call on the chip as it stands, every word of it answered 00000000 but the last, whose answer is this; or whether the chip
-- pulls SDA and SCL by then, which answers do not show where the other line is held
pub data Seen : Type 0 where
  ◌⇒◌ : List ℕ → ℕ → Seen
  pulls : Bool → Bool → Seen

infix 60 ◌⇒◌
pub record Rule : Type 0 where
  pub begins : Chip
  pub seen : List Seen

abbrev pub rule : Chip → List Seen → Rule
rule begins seen = record { begins = begins; seen = seen }

-- ---- whether it holds

abbrev pub same : List ℕ → List ℕ → Bool
same [] [] = true
same [] (y ∷ ys) = false
same (x ∷ xs) [] = false
same (x ∷ xs) (y ∷ ys) = eqb x y && same xs ys

abbrev pub is : Bool → Bool → Bool
is true v = v
is false v = not v

abbrev pub places : List ℕ → List ℕ
places words = replicate (length words) 0

-- zeros, and last this answer
abbrev pub zeros_then : List ℕ → ℕ → List ℕ
zeros_then words answer = replicate (length words - 1) 0 ++ (answer ∷ [])

abbrev pub holds : Chip → List Seen → Bool
holds c [] = true
holds c ((words ⇒ answer) ∷ rest) =
    (eqb (run c words (places words)).number 0 && same (run_answers c words (places words)) (zeros_then words answer))
    && holds (run c words (places words)).chip rest
holds c (pulls sda scl ∷ rest) =
    (is sda (sda_pulled (mode_of c.core) c.core.bus.phase c.core.bus.shifter) && is scl (scl_pulled (mode_of c.core) c.core.bus.phase))
    && holds c rest

-- the places, from n, of the rules of a list that do not hold
abbrev pub unless : Bool → ℕ → List ℕ → List ℕ
unless true n ns = ns
unless false n ns = n ∷ ns

abbrev pub failing : ℕ → List Rule → List ℕ
failing n [] = []
failing n (r ∷ rs) = unless (holds r.begins r.seen) n (failing (n + 1) rs)

-- ---- words

-- polarity found: of HSYNCI, of VSYNCI
abbrev pub found_h : Bool → List ℕ
found_h level = encode (Ok (Polarity false level)) ∷ []

abbrev pub found_v : Bool → List ℕ
found_v level = encode (Ok (Polarity true level)) ∷ []

-- n pins from the first on
abbrev pub low_from : ℕ → ℕ → List ℕ
low_from pin zero = []
low_from pin (suc n) = low pin ++ low_from (pin + 1) n

-- DDC2B, both bits of II STS cleared after the START, and a byte up to the eighth rise of SCL
abbrev pub calls : ℕ → List ℕ
calls byte = write MDCON 0x06 ++ write IISTS 0x00 ++ start ++ write IISTS 0x00 ++ send byte

-- the eighth fall, and a ninth clock with SDA high outside: SCL ends high
abbrev pub ninth_high : List ℕ
ninth_high = low SCL ++ high SDA ++ high SCL

-- up to the ninth fall
abbrev pub held : ℕ → List ℕ
held byte = calls byte ++ ninth_high ++ low SCL

-- eight clocks of a byte that the chip sends
abbrev pub eight_clocks : List ℕ
eight_clocks = times 8 (high SCL ++ low SCL)

-- a read of each of n registers gives the byte
abbrev pub reads : ℕ → ℕ → ℕ → List Seen
reads a zero byte = []
reads a (suc n) byte = (read a ⇒ byte) ∷ reads (a + 1) n byte

-- a read of a write-only register, and a write to a read-only one
abbrev pub unreadable : ℕ → Seen
unreadable a = read a ⇒ 0x05000000

abbrev pub unwritable : ℕ → Seen
unwritable a = write a 0xff ⇒ 0x06000000

-- a word by itself
abbrev pub word : ℕ → List ℕ
word w = w ∷ []

-- ---- first states: counters far on, and otherwise fresh

abbrev pub counters : ℕ → ℕ → ℕ → ℕ → Core → Core
counters lines periods interval clocks c =
    with_watchdog
    (with_sync c
    (record {
      lines = record { count = record { 0 = lines }; latch = record { 0 = 0 }; overflow = false };
      periods = record { count = record { 0 = periods }; latch = record { 0 = 0 }; overflow = false };
      interval = interval;
    })) clocks

-- HCNT, VCNT, the interval and the watchdog
unfoldable pub counting : ℕ → ℕ → ℕ → ℕ → Chip
counting lines periods interval clocks = chip_of fresh.registers (counters lines periods interval clocks fresh.core)

-- every count at its last value
abbrev pub full : Chip
full = counting 4095 4095 1023 63

-- ---- the rules

unfoldable pub table : List Rule
table =
    -- 0, Registers: reset values that a read shows
    rule fresh
    ((read PT0 ⇒ 0xff) ∷ (read PT1 ⇒ 0x7f) ∷ (read PT2 ⇒ 0xff) ∷ (read PT3 ⇒ 0x03) ∷ (read MDCON ⇒ 0x03) ∷ (read HVCON ⇒ 0x3c)
    ∷ (reads HCNTL 4 0x00 ++ ((read AD0 ⇒ 0xc0) ∷ (read AD1 ⇒ 0x00) ∷ (read IRQX ⇒ 0x00) ∷ (read IIDAT ⇒ 0x00) ∷ (read IISTS ⇒ 0x08) ∷ reads DACH0 14 0x80)))
    ∷  -- 1: registers that are only written
    rule fresh
    (unreadable PT2DIR ∷ unreadable SYNCON ∷ unreadable ENDAC ∷ unreadable IEX ∷ unreadable CLRFLG ∷ unreadable CLRWDT ∷ unreadable IIADR ∷ unreadable BT ∷ unreadable BTCON ∷ [])
    ∷  -- 2: registers that are only read; AD0 takes a write and keeps its value
    rule fresh
    (unwritable HCNTL ∷ unwritable HCNTH ∷ unwritable VCNTL ∷ unwritable VCNTH ∷ unwritable AD1 ∷ unwritable IRQX ∷ (write AD0 0xff ++ read AD0 ⇒ 0xc0) ∷ [])
    ∷  -- 3: a write changes the bits of its mask; P16 and HVCON's upper bits are not among them
    rule fresh ((write PT1 0x00 ++ read PT1 ⇒ 0x40) ∷ (write MDCON 0x00 ++ read MDCON ⇒ 0x00) ∷ (write HVCON 0x00 ++ read HVCON ⇒ 0x3c) ∷ (write DACH0 0x5a ++ read DACH0 ⇒ 0x5a) ∷ [])
    ∷  -- 4: ENDAC and SYNCON reset to ones: no pin of ports 0 and 1 is given away, each reads its level
    rule fresh ((low_from 0 8 ++ read PT0 ⇒ 0x00) ∷ (low_from 8 7 ++ read PT1 ⇒ 0x00) ∷ [])
    ∷  -- 5: PT2DIR resets to ones: outputs, which read their latch; inputs read their level
    rule fresh ((low_from 16 8 ++ read PT2 ⇒ 0xff) ∷ (write PT2DIR 0x0f ++ high 20 ++ read PT2 ⇒ 0x1f) ∷ (write PT2 0x00 ++ read PT2 ⇒ 0x10) ∷ [])
    ∷  -- 6: fresh levels are 1, of port 2 too
    rule fresh ((write PT2DIR 0x00 ++ write PT2 0x00 ++ read PT2 ⇒ 0xff) ∷ (low SDA ++ read PT3 ⇒ 0x02) ∷ (low SCL ++ read PT3 ⇒ 0x00) ∷ [])
    ∷  -- 7, Ports: a pin is its latch and its level; P16 is its level
    rule fresh ((write PT0 0xf0 ++ low 4 ++ low 0 ++ read PT0 ⇒ 0xe0) ∷ (write PT1 0x15 ++ low 8 ++ read PT1 ⇒ 0x54) ∷ (low P16 ++ read PT1 ⇒ 0x14) ∷ [])
    ∷  -- 8: pins given away read their latch
    rule fresh
    ((low_from 0 15 ++ write ENDAC 0xc0 ++ read PT0 ⇒ 0x3f) ∷ (write SYNCON 0xfe ++ read PT0 ⇒ 0x7f) ∷ (write SYNCON 0xfd ++ read PT0 ⇒ 0xbf)
    ∷ (write ENDAC 0xbf ++ read PT1 ⇒ 0x01) ∷ (write ENDAC 0x7f ++ read PT1 ⇒ 0x02) ∷ (write SYNCON 0xbf ++ read PT1 ⇒ 0x0e)
    ∷ (write PT0 0xaa ++ write ENDAC 0x00 ++ read PT0 ⇒ 0x2a) ∷ [])
    ∷  -- 9: P30 and P31 given away to the bus
    rule fresh ((low SDA ++ low SCL ++ read PT3 ⇒ 0x00) ∷ (write IISTS 0x00 ++ read PT3 ⇒ 0x03) ∷ (write PT3 0x01 ++ read PT3 ⇒ 0x01) ∷ [])
    ∷  -- 10, Flags: set whether enabled or not; CLRFLG's bits; a request is a flag that IEX enables
    rule fresh
    ((pulse VSYNCI ++ pulse P16 ++ read IRQX ⇒ 0x03) ∷ (write CLRFLG 0x3c ++ read IRQX ⇒ 0x03) ∷ (write CLRFLG 0x02 ++ read IRQX ⇒ 0x01)
    ∷ (write IEX 0x3e ++ pulse P16 ⇒ 0x0200) ∷ (write IEX 0x01 ⇒ 0x0100) ∷ (write CLRFLG 0x01 ++ write IEX 0x3f ⇒ 0x0200) ∷ [])
    ∷  -- 11: falls and levels given again set no flag
    rule fresh ((low VSYNCI ++ low P16 ++ read IRQX ⇒ 0x00) ∷ (high VSYNCI ++ high P16 ++ write CLRFLG 0x3f ++ high VSYNCI ++ high P16 ++ read IRQX ⇒ 0x00) ∷ [])
    ∷  -- 12, the base timer: BTCON resets to no timer, by either clock; writing BT sets no flag
    rule fresh ((write BT 0xff ++ clock base0 ++ clock base1 ++ write BT 0x00 ++ read IRQX ⇒ 0x00) ∷ [])
    ∷  -- 13: BT resets to 00, and steps by the clock that TBS selects
    rule fresh
    ((write BTCON 0x00 ++ times 255 (clock base0) ++ times 9 (clock base1) ++ read IRQX ⇒ 0x00) ∷ (clock base0 ++ read IRQX ⇒ 0x04) ∷ [])
    ∷  -- 14: it runs on from 00
    rule fresh
    ((write BT 0xff ++ write BTCON 0x02 ++ clock base1 ++ read IRQX ⇒ 0x04) ∷ (write CLRFLG 0x04 ++ clock base1 ++ read IRQX ⇒ 0x00)
    ∷ (write BT 0xfe ++ clock base1 ++ read IRQX ⇒ 0x00) ∷ (clock base1 ++ read IRQX ⇒ 0x04) ∷ [])
    ∷  -- 15, the watchdog: CLRWDT 55H clears it, and 54H does not
    rule full ((write CLRWDT 0x55 ++ times 63 (clock watchdog) ++ read DACH0 ⇒ 0x80) ∷ (write CLRWDT 0x54 ++ clock watchdog ⇒ 0x00010000) ∷ [])
    ∷  -- 16, a reset by RESET: registers by the table, flags 0; the ports keep their levels
    rule fresh
    ((write DACH0 0x01 ++ write PT0 0x00 ++ pulse VSYNCI ++ low 0 ++ low 8 ++ low 16 ++ low RESET ++ high RESET ++ read PT0 ⇒ 0xfe) ∷ (read PT1 ⇒ 0x7e)
    ∷ (read PT2 ⇒ 0xff) ∷ (write PT2DIR 0x00 ++ read PT2 ⇒ 0xfe) ∷ (read DACH0 ⇒ 0x80) ∷ (read IRQX ⇒ 0x00) ∷ [])
    ∷  -- 17: and one by the watchdog
    rule full
    ((low 0 ++ low 8 ++ low 16 ++ low HSYNCI ++ low SCL ++ clock watchdog ⇒ 0x00010000) ∷ (read PT0 ⇒ 0xfe) ∷ (read PT1 ⇒ 0x7e)
    ∷ (read HVCON ⇒ 0x1c) ∷ (read PT3 ⇒ 0x01) ∷ (write PT2DIR 0x00 ++ read PT2 ⇒ 0xfe) ∷ [])
    ∷  -- 18, Counting sync: HVCON shows the two sync pins
    rule fresh ((low HSYNCI ++ read HVCON ⇒ 0x1c) ∷ (high HSYNCI ++ low VSYNCI ++ read HVCON ⇒ 0x2c) ∷ [])
    ∷  -- 19: and the polarities as they were found
    rule fresh
    ((found_h false ++ read HVCON ⇒ 0x34) ∷ (found_v false ++ read HVCON ⇒ 0x30) ∷ (found_h true ++ read HVCON ⇒ 0x38) ∷ (found_v true ++ read HVCON ⇒ 0x3c) ∷ [])
    ∷  -- 20: and HCNTOV, set by a step due at 4095, which CLRFLG bit 7 clears with HCNT
    rule full
    ((pulse HSYNCI ++ read HVCON ⇒ 0xbc) ∷ (write CLRFLG 0x7f ++ read HVCON ⇒ 0xbc) ∷ (write CLRFLG 0x80 ++ read HVCON ⇒ 0x3c)
    ∷ (pulse HSYNCI ++ pulse VSYNCI ++ read HCNTL ⇒ 0x01) ∷ (read HCNTH ⇒ 0x00) ∷ [])
    ∷  -- 21: and VCNTOV, which bit 6 clears with VCNT
    rule full
    ((clock period ++ read HVCON ⇒ 0x7c) ∷ (write CLRFLG 0xbf ++ read HVCON ⇒ 0x7c) ∷ (write CLRFLG 0x40 ++ read HVCON ⇒ 0x3c)
    ∷ (clock period ++ clock period ++ pulse VSYNCI ++ read VCNTL ⇒ 0x02) ∷ (read VCNTH ⇒ 0x00) ∷ [])
    ∷  -- 22: CLRFLG bit 7 zeroes an HCNT that has not overflowed, and it alone
    rule (counting 0x123 0x456 0 0)
    ((write CLRFLG 0x80 ++ pulse VSYNCI ++ read HCNTL ⇒ 0x00) ∷ (read HCNTH ⇒ 0x00) ∷ (read VCNTL ⇒ 0x56) ∷ (read VCNTH ⇒ 0x04) ∷ [])
    ∷  -- 23: bit 6 a VCNT, and it alone
    rule (counting 0x123 0x456 0 0)
    ((write CLRFLG 0x40 ++ pulse VSYNCI ++ read HCNTL ⇒ 0x23) ∷ (read HCNTH ⇒ 0x01) ∷ (read VCNTL ⇒ 0x00) ∷ (read VCNTH ⇒ 0x00) ∷ [])
    ∷  -- 24: HSEL 1: a rise of VSYNCI latches and zeroes both
    rule (counting 0x123 0x456 0 0)
    ((pulse VSYNCI ++ read HCNTL ⇒ 0x23) ∷ (read HCNTH ⇒ 0x01) ∷ (read VCNTL ⇒ 0x56) ∷ (read VCNTH ⇒ 0x04)
    ∷ (pulse VSYNCI ++ read HCNTL ⇒ 0x00) ∷ (read VCNTL ⇒ 0x00) ∷ [])
    ∷  -- 25: HSEL 0: VCNT alone, and every 1,024th 8 µs clock latches and zeroes HCNT; HSEL from 1 to 0 zeroed it
    rule (counting 0x123 0x456 0 0)
    ((write MDCON 0x03 ++ pulse HSYNCI ++ pulse VSYNCI ++ read HCNTL ⇒ 0x00) ∷ (read VCNTL ⇒ 0x56)
    ∷ (times 1023 (clock period) ++ read HCNTL ⇒ 0x00) ∷ (clock period ++ read HCNTL ⇒ 0x01) ∷ (times 1024 (clock period) ++ read HCNTL ⇒ 0x00) ∷ [])
    ∷  -- 26: HSEL from 1 to 0 zeroes the interval too; written 0 again, or from 0 to 1, it zeroes nothing
    rule (counting 0 0 1000 0)
    ((write MDCON 0x03 ++ pulse HSYNCI ++ write MDCON 0x03 ++ times 1023 (clock period) ++ read HCNTL ⇒ 0x00) ∷ (clock period ++ read HCNTL ⇒ 0x01)
    ∷ (pulse HSYNCI ++ pulse HSYNCI ++ write MDCON 0x07 ++ pulse VSYNCI ++ read HCNTL ⇒ 0x02) ∷ [])
    ∷  -- 27: an overflowed counter stands and is not latched
    rule full
    ((pulse HSYNCI ++ clock period ++ pulse VSYNCI ++ read HCNTL ⇒ 0x00) ∷ (read VCNTL ⇒ 0x00) ∷ (read HVCON ⇒ 0xfc) ∷ [])
    ∷  -- 28: HSEL from 1 to 0 leaves the overflow bit
    rule full ((pulse HSYNCI ++ write MDCON 0x03 ++ read HVCON ⇒ 0xbc) ∷ (times 1024 (clock period) ++ pulse VSYNCI ++ read HCNTL ⇒ 0x00) ∷ (read HVCON ⇒ 0xfc) ∷ [])
    ∷  -- 29: S/C steers nothing
    rule (counting 5 6 0 0) ((write MDCON 0x05 ++ pulse VSYNCI ++ read IRQX ⇒ 0x01) ∷ (read HCNTL ⇒ 0x05) ∷ (read VCNTL ⇒ 0x06) ∷ [])
    ∷  -- 30, The bus: with DDC off no edge is seen
    rule fresh ((low SDA ++ high SDA ++ low SCL ++ high SCL ++ read IISTS ⇒ 0x08) ∷ (read IRQX ⇒ 0x00) ∷ pulls false false ∷ [])
    ∷  -- 31: DDC1: nine rises of VSYNCI, then 4BH is loaded with D and shifted out, a null bit, and loaded again
    rule fresh
    ((write IISTS 0x00 ++ write IIDAT 0x4b ++ times 9 (pulse VSYNCI) ++ read IRQX ⇒ 0x01) ∷ pulls false false
    ∷ (pulse VSYNCI ++ read IRQX ⇒ 0x11) ∷ pulls true false ∷ (pulse VSYNCI ++ read IRQX ⇒ 0x11) ∷ pulls false false
    ∷ (pulse VSYNCI ++ write CLRFLG 0x3f ++ read IRQX ⇒ 0x00) ∷ pulls true false ∷ (times 5 (pulse VSYNCI) ++ read IRQX ⇒ 0x01) ∷ pulls false false
    ∷ (pulse VSYNCI ++ read IRQX ⇒ 0x01) ∷ pulls false false ∷ (pulse VSYNCI ++ read IRQX ⇒ 0x11) ∷ pulls true false ∷ [])
    ∷  -- 32: turned on with SCL low it stays DDC1, and shifts
    rule fresh
    ((low SCL ++ write IISTS 0x00 ++ write IIDAT 0x00 ++ times 10 (pulse VSYNCI) ++ read MDCON ⇒ 0x03) ∷ pulls true false ∷ [])
    ∷  -- 33: START and STOP are not seen there
    rule fresh ((write IISTS 0x00 ++ low SDA ++ high SDA ++ read IISTS ⇒ 0x00) ∷ (read MDCON ⇒ 0x03) ∷ [])
    ∷  -- 34: a fall of SCL in DDC1 sets S and clears MD1/2, a change of mode: SDA is released, START is seen then
    rule fresh
    ((write IISTS 0x00 ++ write IIDAT 0x00 ++ times 10 (pulse VSYNCI) ++ write CLRFLG 0x3f ++ read MDCON ⇒ 0x03) ∷ pulls true false
    ∷ (low SCL ++ read MDCON ⇒ 0x02) ∷ pulls false false ∷ (read IRQX ⇒ 0x20) ∷ (high SCL ++ low SDA ++ read IISTS ⇒ 0x20) ∷ [])
    ∷  -- 35: MD1/2 written back to 1 begins nine edges anew
    rule fresh
    ((write IISTS 0x00 ++ write IIDAT 0x00 ++ times 10 (pulse VSYNCI) ++ write MDCON 0x06 ++ write MDCON 0x07 ++ write CLRFLG 0x3f ++ times 9 (pulse VSYNCI) ++ read IRQX ⇒ 0x01)
    ∷ pulls false false ∷ (pulse VSYNCI ++ read IRQX ⇒ 0x11) ∷ pulls true false ∷ [])
    ∷  -- 36, DDC2B: START and STOP, which a written 0 clears and a written 1 keeps
    rule fresh
    ((write MDCON 0x06 ++ write IISTS 0x30 ++ read IISTS ⇒ 0x00) ∷ (low SDA ++ read IISTS ⇒ 0x20) ∷ (write IISTS 0x00 ++ high SDA ++ read IISTS ⇒ 0x10)
    ∷ (low SDA ++ write IISTS 0x10 ++ read IISTS ⇒ 0x10) ∷ (high SDA ++ low SDA ++ write IISTS 0x20 ++ read IISTS ⇒ 0x20) ∷ [])
    ∷  -- 37: SDA moving while SCL is low is neither
    rule fresh ((write MDCON 0x06 ++ write IISTS 0x00 ++ low SCL ++ low SDA ++ high SDA ++ read IISTS ⇒ 0x00) ∷ [])
    ∷  -- 38: a 0 in PT3 pulls neither line
    rule fresh ((write MDCON 0x06 ++ write IISTS 0x00 ++ write PT3 0x00 ++ low SDA ++ read IISTS ⇒ 0x20) ∷ pulls false false ∷ [])
    ∷  -- 39: addresses: A0H and II ADR by bits 7 to 1, A set at the eighth rise and not before
    rule fresh
    ((write IIADR 0x54 ++ calls 0x55 ++ read IRQX ⇒ 0x28) ∷ (write CLRFLG 0x3f ++ low SCL ++ high SDA ++ high SCL ++ write IISTS 0x08 ++ calls 0x56 ++ read IRQX ⇒ 0x20)
    ∷ (low SCL ++ high SDA ++ high SCL ++ low SDA ++ write CLRFLG 0x3f ++ send 0xa1 ++ read IRQX ⇒ 0x28) ∷ [])
    ∷  -- 40: a matched address is acknowledged: SDA is pulled in the ninth clock, so that neither START nor STOP is seen there
    rule fresh
    ((calls 0xa0 ++ read IISTS ⇒ 0x00) ∷ pulls false false ∷ (low SCL ++ read IRQX ⇒ 0x28) ∷ pulls true false
    ∷ (high SDA ++ high SCL ++ low SDA ++ high SDA ++ read IISTS ⇒ 0x00) ∷ pulls true false ∷ [])
    ∷  -- 41, Wish 2: whatever TXAK is
    rule fresh
    ((calls 0xa0 ++ write IISTS 0x01 ++ ninth_high ++ low SDA ++ high SDA ++ read IISTS ⇒ 0x00) ∷ pulls true false ∷ [])
    ∷  -- 42: the ninth fall sets D and holds SCL, SDA released; II DAT has the address
    rule fresh ((held 0xa0 ++ read IRQX ⇒ 0x38) ∷ pulls false true ∷ (read IIDAT ⇒ 0xa0) ∷ [])
    ∷  -- 43: a foreign address: no A, no D, no acknowledge, no hold; II DAT has it; the next byte is not gathered
    rule fresh
    ((calls 0x54 ++ read IRQX ⇒ 0x20) ∷ (low SCL ++ read IIDAT ⇒ 0x54) ∷ pulls false false ∷ (high SDA ++ high SCL ++ low SCL ++ read IRQX ⇒ 0x20) ∷ pulls false false
    ∷ (send 0xa0 ++ read IIDAT ⇒ 0x54) ∷ (read IRQX ⇒ 0x20) ∷ [])
    ∷  -- 44: until a START, or a STOP and a START: the next address is looked at
    rule fresh
    ((calls 0x54 ++ low SCL ++ high SDA ++ high SCL ++ start ++ send 0xa0 ++ read IRQX ⇒ 0x28) ∷ [])
    ∷  -- 45: a STOP ends a transfer: what follows is not gathered
    rule fresh
    ((calls 0xa0 ++ read IIDAT ⇒ 0xa0) ∷ (write MDCON 0x07 ++ write MDCON 0x06 ++ low SDA ++ write CLRFLG 0x3f ++ high SDA ++ send 0xa0 ++ read IRQX ⇒ 0x20) ∷ [])
    ∷  -- 46, Wish 2, TXAK 0: a received byte is acknowledged until the ninth fall, which sets D; TXAK written within the clock moves nothing
    rule fresh
    ((held 0xa0 ++ write CLRFLG 0x3f ++ write IIDAT 0xff ++ send 0x5a ++ read IIDAT ⇒ 0x5a) ∷ pulls false false
    ∷ (low SCL ++ high SDA ++ high SCL ++ low SDA ++ high SDA ++ read IISTS ⇒ 0x00) ∷ pulls true false
    ∷ (write IISTS 0x01 ++ read IRQX ⇒ 0x20) ∷ pulls true false ∷ (low SCL ++ read IRQX ⇒ 0x30) ∷ pulls false true ∷ [])
    ∷  -- 47: TXAK 1 at the eighth fall: it is not, and D and the hold come all the same
    rule fresh
    ((held 0xa0 ++ write CLRFLG 0x3f ++ write IIDAT 0xff ++ send 0x5a ++ write IISTS 0x01 ++ low SCL ++ read IIDAT ⇒ 0x5a) ∷ pulls false false
    ∷ (write IISTS 0x00 ++ high SDA ++ high SCL ++ read IRQX ⇒ 0x20) ∷ pulls false false ∷ (low SCL ++ read IRQX ⇒ 0x30) ∷ pulls false true ∷ [])
    ∷  -- 48: TXAK 1 before the eighth fall and 0 at it: acknowledged
    rule fresh
    ((held 0xa0 ++ write IISTS 0x01 ++ write IIDAT 0xff ++ send 0x5a ++ write IISTS 0x00 ++ low SCL ++ read IIDAT ⇒ 0x5a) ∷ pulls true false ∷ [])
    ∷  -- 49: a START can be seen in a ninth clock that is not acknowledged
    rule fresh
    ((held 0xa0 ++ write IISTS 0x01 ++ write IIDAT 0xff ++ send 0x5a ++ ninth_high ++ low SDA ++ read IISTS ⇒ 0x20) ∷ [])
    ∷  -- 50: transmit: 6AH, each bit until the next fall; the eighth fall releases SDA, the rise takes RXAK, the fall sets D and holds
    rule fresh
    ((held 0xa1 ++ write CLRFLG 0x3f ++ write IISTS 0x04 ++ write IIDAT 0x6a ++ read IIDAT ⇒ 0x6a) ∷ pulls true false
    ∷ (high SCL ++ low SCL ++ read IISTS ⇒ 0x04) ∷ pulls false false ∷ (high SCL ++ low SCL ++ read IRQX ⇒ 0x20) ∷ pulls false false
    ∷ (high SCL ++ low SCL ++ read IRQX ⇒ 0x20) ∷ pulls true false ∷ (high SCL ++ low SCL ++ read IRQX ⇒ 0x20) ∷ pulls false false
    ∷ (high SCL ++ low SCL ++ write IIDAT 0x00 ++ read IRQX ⇒ 0x20) ∷ pulls true false ∷ (high SCL ++ low SCL ++ read IRQX ⇒ 0x20) ∷ pulls false false
    ∷ (high SCL ++ low SCL ++ read IRQX ⇒ 0x20) ∷ pulls true false ∷ (high SCL ++ low SCL ++ read IRQX ⇒ 0x20) ∷ pulls false false
    ∷ (high SCL ++ read IISTS ⇒ 0x06) ∷ (low SCL ++ read IRQX ⇒ 0x30) ∷ pulls false true ∷ [])
    ∷  -- 51: RXAK: a 1 of the host, then a 0
    rule fresh
    ((held 0xa1 ++ write IISTS 0x04 ++ write IIDAT 0xff ++ eight_clocks ++ high SCL ++ read IISTS ⇒ 0x06) ∷ (low SCL ++ write IIDAT 0xff ++ eight_clocks ++ low SDA ++ read IISTS ⇒ 0x06)
    ∷ (high SCL ++ read IISTS ⇒ 0x04) ∷ [])
    ∷  -- 52: held, outside SCL makes no edge, and SDA no START or STOP
    rule fresh ((held 0xa0 ++ write CLRFLG 0x3f ++ high SCL ++ low SDA ++ high SDA ++ low SCL ++ high SCL ++ read IRQX ⇒ 0x00) ∷ pulls false true ∷ (read IISTS ⇒ 0x00) ∷ [])
    ∷  -- 53: let go with SCL at 1 outside: the rise gathers the first bit in that step
    rule fresh
    ((held 0xa0 ++ high SDA ++ high SCL ++ write IIDAT 0x00 ++ times 7 (low SCL ++ high SCL) ++ read IIDAT ⇒ 0xff) ∷ [])
    ∷  -- 54: turning DDC off while held releases both lines
    rule fresh ((held 0xa0 ++ write IISTS 0x08 ++ read IISTS ⇒ 0x08) ∷ pulls false false ∷ [])
    ∷  -- 55: so does a reset
    rule fresh ((held 0xa0 ++ low RESET ++ high RESET ++ read IISTS ⇒ 0x08) ∷ pulls false false ∷ (read IIDAT ⇒ 0x00) ∷ [])
    ∷  -- 56, Numbers: 1, 2, 3 before 4; 4 before 5 and 6; pins and clocks are taken while RESET is low, and only levels move
    rule fresh
    ((low RESET ++ read IEX ⇒ 0x04000000) ∷ (write IRQX 0x00 ⇒ 0x04000000) ∷ (word 0x01012600 ⇒ 0x01000000) ∷ (word 0x01002601 ⇒ 0x02000000) ∷ (word 0x01000001 ⇒ 0x03000000)
    ∷ (pulse VSYNCI ++ pulse P16 ++ low 0 ++ clock watchdog ++ found_h false ++ high RESET ++ read IRQX ⇒ 0x00) ∷ (read HVCON ⇒ 0x3c) ∷ (read PT0 ⇒ 0xfe) ∷ [])
    ∷  -- 57: 1 for other kinds and for bits 23 to 16, 2 for what is not there, 3 for B outside the table
    rule fresh
    ((word 0x00000000 ⇒ 0x01000000) ∷ (word 0x06000000 ⇒ 0x01000000) ∷ (word 0x04010000 ⇒ 0x01000000) ∷ (word 0x02002600 ⇒ 0x02000000) ∷ (word 0x03000f00 ⇒ 0x02000000)
    ∷ (word 0x03001d00 ⇒ 0x02000000) ∷ (word 0x04000400 ⇒ 0x02000000) ∷ (word 0x05000200 ⇒ 0x02000000) ∷ (word 0x03000002 ⇒ 0x03000000) ∷ (word 0x04000001 ⇒ 0x03000000)
    ∷ (word 0x05000002 ⇒ 0x03000000) ∷ [])
    ∷  -- 58: numbers 1 to 6 carry the request lines
    rule fresh
    ((write IEX 0x01 ++ pulse VSYNCI ⇒ 0x0100) ∷ (word 0x00000000 ⇒ 0x01000100) ∷ (read 0x26 ⇒ 0x02000100) ∷ (word 0x04000001 ⇒ 0x03000100) ∷ (read IEX ⇒ 0x05000100) ∷ (write IRQX 0 ⇒ 0x06000100) ∷ [])
    ∷ []
