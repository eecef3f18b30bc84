-- A fresh chip and a reset one, written out (document 01, "Registers", the column of reset values, and "Flags, timer, watchdog, reset").
use Rattle.std.specs.Prelude.{ℕ, Bool, true, false, List, [], ◌∷◌}
use Rattle.bus.specs.declared.Phase.TheVariants.{Idle}
use Rattle.chip.specs.declared.Pins.{Pins}
use Rattle.chip.specs.declared.Chip.{Chip}

-- the column, from PT0 on: a second writing, beside the table
abbrev pub reset_column : List ℕ
reset_column =
    0xff ∷ 0x7f ∷ 0xff ∷ 0xff ∷ 0x03 ∷ 0x07 ∷ 0x2f  -- PT0 PT1 PT2DIR PT2 PT3 MDCON HVCON
    ∷ 0x00 ∷ 0x00 ∷ 0x00 ∷ 0x00 ∷ 0xff ∷ 0xff  -- HCNTL HCNTH VCNTL VCNTH SYNCON ENDAC
    ∷ 0xc0 ∷ 0x00 ∷ 0x00 ∷ 0x00 ∷ 0x00 ∷ 0x00  -- AD0 AD1 IEX IRQX CLRFLG CLRWDT
    ∷ 0xff ∷ 0x00 ∷ 0x08 ∷ 0x00 ∷ 0x03  -- II ADR, II DAT, II STS, BT BTCON
    ∷ 0x80 ∷ 0x80 ∷ 0x80 ∷ 0x80 ∷ 0x80 ∷ 0x80 ∷ 0x80 ∷ 0x80 ∷ 0x80 ∷ 0x80 ∷ 0x80 ∷ 0x80 ∷ 0x80 ∷ 0x80 ∷ []

-- flags, counts, latches, interval and watchdog 0, lines released, phase idle, shift register ones, nine edges left; these outside levels
abbrev pub reset_state : Pins → Bool → Bool → Bool → Chip
reset_state pins sda scl reset =
    record {
      registers = reset_column;
      core = record {
        irqx = 0x00;
        mdcon = 0x07;
        polarity = 0x0f;
        bt = 0x00;
        watchdog = 0;
        sync = record {
          lines = record { count = record { 0 = 0 }; latch = record { 0 = 0 }; overflow = false };
          periods = record { count = record { 0 = 0 }; latch = record { 0 = 0 }; overflow = false };
          interval = 0;
        };
        bus = record { iists = 0x08; iiadr = 0xff; iidat = 0x00; phase = Idle; shifter = record { register = 0xff; edges = 9 } };
        pins = pins;
        sda = sda;
        scl = scl;
        reset = reset;
      };
    }

-- all outside levels 1
abbrev pub fresh_state : Chip
fresh_state = reset_state (record { port0 = 0xff; port1 = 0x7f; port2 = 0xff; hsynci = true; vsynci = true }) true true true
