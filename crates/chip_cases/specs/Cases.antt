-- The cases of document 01, "Replay program and cases": words given to a fresh chip, and what is to come of them.
use Rattle.std.specs.Prelude.{ℕ, Bool, true, false, ◌≡◌, List, [], ◌∷◌, ◌++◌, length, replicate, Result, Ok, Err}
use Rattle.registers.specs.Names.{MDCON, HVCON, IEX, IRQX, CLRFLG, CLRWDT, IISTS, BT, BTCON, DACH0, INTA, INTD}
use Rattle.bits.specs.Byte.{weight}
use Rattle.events.specs.Pins.{P16, HSYNCI, VSYNCI}
use Rattle.events.specs.Clocks.{period, base0, watchdog}
use Rattle.rates.specs.Hertz.{Exactly}
use Rattle.rates.specs.declared.NoRate.{NoRate}
use Rattle.rates.specs.declared.Rate.{Rate}
use Rattle.rates.specs.declared.Rate.TheVariants.{FieldRate, LineRate}
use Rattle.chip_rate_report.specs.declared.Scan.TheVariants.{Field, Line}
use Rattle.chip_rate_report.specs.Report.{rate_report}
use Rattle.chip.specs.declared.Chip.{Chip}
use Rattle.chip.specs.State.{fresh}
use Rattle.list_call.specs.Run.{run, run_answers}
use Rattle.chip_cases.specs.Words.{times, read, write, high, low, clock, pulse, start, send}

-- what a case claims of the chip after its words, beside the answers; a rate is in Hz, as a fraction
pub data Claim : Type 0 where
  none : Claim
  -- VCNT's count and its overflow bit
  vcnt : ℕ → Bool → Claim
  -- the rate report on the field and on the line
  field_rate : ℕ → ℕ → Claim
  line_rate : ℕ → ℕ → Claim

-- a report is the field rate, or the line rate, and nothing of the fraction is lost in it
abbrev pub IsField : Result Rate NoRate → ℕ → ℕ → Type 0
IsField (Err why) a b = ⊥
IsField (Ok (FieldRate x)) a b = Exactly x a b
IsField (Ok (LineRate x)) a b = ⊥

abbrev pub IsLine : Result Rate NoRate → ℕ → ℕ → Type 0
IsLine (Err why) a b = ⊥
IsLine (Ok (FieldRate x)) a b = ⊥
IsLine (Ok (LineRate x)) a b = Exactly x a b

abbrev pub Meets : Chip → Claim → Type 0
Meets c none = Unit
Meets c (vcnt count overflow) = ◌≡◌ {A = ℕ × Bool} (c.core.sync.periods.count.0, c.core.sync.periods.overflow) (count, overflow)
Meets c (field_rate a b) = IsField (rate_report c Field) a b
Meets c (line_rate a b) = IsLine (rate_report c Line) a b

-- a case by the number that document 01 gives it, 0 for the example of the replay program: words, an answer to each, and the claim
pub record Case : Type 0 where
  pub number : ℕ
  pub words : List ℕ
  pub answers : List ℕ
  pub claim : Claim

-- places for the answers to a list of words
abbrev pub places : List ℕ → List ℕ
places words = replicate (length words) 0

-- from fresh, the list call returns 0, gives these answers and leaves a chip that meets the claim
abbrev pub Holds : Case → Type 0
Holds k =
    ((run fresh k.words (places k.words)).number ≡ 0)
    × (run_answers fresh k.words (places k.words) ≡ k.answers)
    × Meets (run fresh k.words (places k.words)).chip k.claim

-- ---- answers

-- done, no request, nothing read: n times
abbrev pub zeros : ℕ → List ℕ
zeros n = replicate n 0

abbrev pub gives : ℕ → List ℕ
gives answer = answer ∷ []

-- ---- P8 and P9: DDC2B with flag A enabled, START, and an address

abbrev pub addressed : ℕ → List ℕ
addressed byte = write IEX (weight INTA) ++ write MDCON 0x06 ++ write IISTS 0x00 ++ start ++ send byte

-- ---- P10: a rise of VSYNCI, then flag D cleared, so that each rise is seen by itself

abbrev pub rise : List ℕ
rise = pulse VSYNCI ++ write CLRFLG (weight INTD)

abbrev pub sets_d : List ℕ
sets_d = gives 0x00000000 ++ gives 0x00001000 ++ gives 0x00000000

-- ---- the table

unfoldable pub table : List Case
table =
    -- read 05 gives 03
    record { number = 1; words = read MDCON; answers = gives 0x00000003; claim = none }
    ∷  -- 25H reads 80H, and 26H is no register
    record { number = 2; words = read 0x25 ++ read 0x26; answers = gives 0x00000080 ++ gives 0x02000000; claim = none }
    ∷  -- FF to 0F, then P16 low and high
    record { number = 3; words = write IEX 0xff ++ low P16 ++ high P16; answers = zeros 2 ++ gives 0x00000200; claim = none }
    ∷  -- BT FE, enabled: flag R (IRQX bit 2) on the second clock
    record {
      number = 4;
      words = write BT 0xfe ++ write BTCON 0x00 ++ clock base0 ++ read IRQX ++ clock base0 ++ read IRQX;
      answers = zeros 5 ++ gives 0x00000004;
      claim = none;
    }
    ∷  -- a byte in DACH0 outlasts the 63rd watchdog clock, and the 64th resets it
    record {
      number = 5;
      words = write DACH0 0x11 ++ times 63 (clock watchdog) ++ read DACH0 ++ clock watchdog ++ read DACH0;
      answers = zeros 64 ++ gives 0x00000011 ++ gives 0x00010000 ++ gives 0x00000080;
      claim = none;
    }
    ∷  -- 54H to 12 clears nothing: the 64th clock still resets
    record {
      number = 6;
      words = times 63 (clock watchdog) ++ write CLRWDT 0x54 ++ clock watchdog;
      answers = zeros 64 ++ gives 0x00010000;
      claim = none;
    }
    ∷  -- VCNT 4095
    record { number = 7; words = times 4095 (clock period); answers = zeros 4095; claim = vcnt 4095 false }
    ∷  -- one clock more: overflow, which HVCON shows in bit 6, and the count stands
    record {
      number = 7;
      words = times 4096 (clock period) ++ read HVCON;
      answers = zeros 4096 ++ gives 0x0000007c;
      claim = vcnt 4095 true;
    }
    ∷  -- address A1 sets A, at the eighth rise of SCL
    record { number = 8; words = addressed 0xa1; answers = zeros 27 ++ gives 0x00000800; claim = none }
    ∷  -- A2 does not
    record { number = 9; words = addressed 0xa2; answers = zeros 28; claim = none }
    ∷  -- FE, by the reset value of II ADR, does
    record { number = 9; words = addressed 0xfe; answers = zeros 27 ++ gives 0x00000800; claim = none }
    ∷  -- DDC1 turned on with flag D enabled: of rises 1 to 27, 10 and 19 set D
    record {
      number = 10;
      words = write IEX (weight INTD) ++ write IISTS 0x00 ++ times 27 rise;
      answers = zeros 2 ++ zeros 27 ++ sets_d ++ zeros 24 ++ sets_d ++ zeros 24;
      claim = none;
    }
    ∷  -- 2,000 clocks of 8 µs and a rise of VSYNCI: 62.5 Hz
    record {
      number = 11;
      words = times 2000 (clock period) ++ pulse VSYNCI;
      answers = zeros 2002;
      claim = field_rate 625 10;
    }
    ∷  -- HSEL 0, 256 rises of HSYNCI and 1,024 clocks of 8 µs: 31,250 Hz
    record {
      number = 12;
      words = write MDCON 0x03 ++ times 256 (pulse HSYNCI) ++ times 1024 (clock period);
      answers = zeros 1537;
      claim = line_rate 31250 1;
    }
    ∷  -- the words of the replay program's example
    record {
      number = 0;
      words = 0x01000600 ∷ 0x02000f01 ∷ 0x03001b00 ∷ 0x03001b01 ∷ 0x01001000 ∷ 0x02002600 ∷ 0x02001101 ∷ [];
      answers = 0x0000003c ∷ 0x00000000 ∷ 0x00000000 ∷ 0x00000100 ∷ 0x00000101 ∷ 0x02000100 ∷ 0x00000000 ∷ [];
      claim = none;
    }
    ∷ []

-- every case of a list holds
infixr 30 ◌also◌
pub data Each : List Case → Type 0 where
  done : Each []
  ◌also◌ : {k : Case} {ks : List Case} → Holds k → Each ks → Each (k ∷ ks)
