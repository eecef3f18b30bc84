-- Well formed, clause by clause (document 01, "Numbers given back"; document 02, Wishes 2, 9 and 12): states at the bound of each clause,
-- and states that break it. The states of a clause differ in one part alone, and those at the bound are well formed: so the others break
-- that clause and no more. The numbers stand here as the documents have them, and not as the definition does.
use Rattle.std.specs.Prelude.{ℕ, zero, suc, ◌-◌, ◌^◌, ◌≡◌, Bool, true, false, not, ◌&&◌, List, [], ◌∷◌, ◌++◌, map, eqb, set}
use Rattle.std.specs.Int.Bits.{bit_xor}
use Rattle.bits.specs.Byte.{pick, bit}
use Rattle.registers.specs.Names.{PT0, PT1, PT2DIR, PT2, PT3, MDCON, HVCON, HCNTL, HCNTH, VCNTL, VCNTH, SYNCON, ENDAC, AD0, AD1, IEX, IRQX, CLRFLG, CLRWDT, IIADR, IIDAT, IISTS, BT, BTCON, DACH0}
use Rattle.bus.specs.declared.OwnAddress.{OwnAddress}
use Rattle.bus.specs.declared.OwnAddress.TheVariants.{A0, IiAdr, Both}
use Rattle.bus.specs.declared.Phase.{Phase}
use Rattle.bus.specs.declared.Phase.TheVariants.{Idle, Address, Addressed, Ignoring, Receive, Transmit, Held}
use Rattle.bus.specs.declared.Shifter.{Shifter}
use Rattle.bus.specs.Ddc1.{shifter, unused_shifter}
use Rattle.chip.specs.declared.Core.{Core}
use Rattle.chip.specs.declared.Chip.{Chip}
use Rattle.chip.specs.State.{fresh, chip_of, register_at, bus_of, with_irqx, with_mdcon, with_polarity, with_bt, with_watchdog, with_sync, with_bus, with_pins, with_sda, with_scl, with_reset}
use Rattle.chip_well_formed.specs.WellFormed.{well_formed}
use Rattle.step.specs.Step.{step}
use Rattle.chip_laws.specs.Numbers.{answer_number, ill_formed_answer}

-- ---- a clause

-- states that are well formed, the last of them on the clause's side of its bound, and states that break it
pub record Clause : Type 0 where
  pub within : List Chip
  pub past : List Chip

-- the states of a clause are one state with one part put anew
abbrev pub clause : {A : Type 0} → (A → Chip) → List A → List A → Clause
clause put within past = record { within = map put within; past = map put past }

-- every state within is well formed, and none past the bound is
abbrev pub all_formed : List Chip → Bool
all_formed [] = true
all_formed (c ∷ cs) = well_formed c && all_formed cs

abbrev pub none_formed : List Chip → Bool
none_formed [] = true
none_formed (c ∷ cs) = not (well_formed c) && none_formed cs

abbrev pub holds : Clause → Bool
holds k = all_formed k.within && none_formed k.past

-- the places, from 0, of the clauses that do not hold
abbrev pub failing_from : ℕ → List Clause → List ℕ
failing_from n [] = []
failing_from n (k ∷ ks) = pick (holds k) (failing_from (suc n) ks) (n ∷ failing_from (suc n) ks)

abbrev pub failing : List Clause → List ℕ
failing ks = failing_from 0 ks

-- what the step answers, whatever the word: 8, and the state back, past the bound; another number within it
abbrev pub each : {A : Type 0} → (A → Type 0) → List A → Type 0
each P [] = Unit
each P (x ∷ xs) = P x × each P xs

abbrev pub AnsweredEight : Chip → Type 0
AnsweredEight c = (word : ℕ) → step c word ≡ ill_formed_answer c

abbrev pub AnsweredOtherwise : Chip → Type 0
AnsweredOtherwise c = (word : ℕ) → eqb (answer_number c word) 8 ≡ false

abbrev pub Told : Clause → Type 0
Told k = each AnsweredOtherwise k.within × each AnsweredEight k.past

-- ---- states: a fresh chip with one part put anew

abbrev pub fresh_but : Core → Chip
fresh_but core = chip_of fresh.registers core

-- HCNT and its latch, VCNT and its latch, and the interval
abbrev pub sync_at : ℕ → ℕ → ℕ → ℕ → ℕ → Chip
sync_at lines lineLatch periods periodLatch interval =
    fresh_but
    (with_sync fresh.core
    (record {
      lines = record { count = record { 0 = lines }; latch = record { 0 = lineLatch }; overflow = false };
      periods = record { count = record { 0 = periods }; latch = record { 0 = periodLatch }; overflow = false };
      interval = interval;
    }))

abbrev pub watchdog_at : ℕ → Chip
watchdog_at n = fresh_but (with_watchdog fresh.core n)

-- the two bytes that make the mode, the phase, and the shift register
abbrev pub bus_at : ℕ → ℕ → Phase → Shifter → Chip
bus_at iists mdcon phase s = fresh_but (with_mdcon (with_bus fresh.core (bus_of iists 0xff 0x00 phase s)) mdcon)

-- DDC off, in DDC1, in DDC2B
abbrev pub off : Phase → Shifter → Chip
off = bus_at 0x08 0x07

abbrev pub ddc1 : Phase → Shifter → Chip
ddc1 = bus_at 0x00 0x07

abbrev pub ddc2b : Phase → Shifter → Chip
ddc2b = bus_at 0x00 0x06

-- DDC2B in a phase, the shift register as after a release
abbrev pub in_phase : Phase → Chip
in_phase phase = ddc2b phase unused_shifter

-- ---- ranges

-- counts and latches 0..4095, interval 0..1023, watchdog 0..63, DDC1 edges left 0..9
unfoldable pub ranges : List Clause
ranges =
    clause (λ (n : ℕ). sync_at n 0 0 0 0) (0 ∷ 4095 ∷ []) (4096 ∷ 65535 ∷ [])
    ∷ clause (λ (n : ℕ). sync_at 0 n 0 0 0) (0 ∷ 4095 ∷ []) (4096 ∷ 65535 ∷ [])
    ∷ clause (λ (n : ℕ). sync_at 0 0 n 0 0) (0 ∷ 4095 ∷ []) (4096 ∷ 65535 ∷ [])
    ∷ clause (λ (n : ℕ). sync_at 0 0 0 n 0) (0 ∷ 4095 ∷ []) (4096 ∷ 65535 ∷ [])
    ∷ clause (λ (n : ℕ). sync_at 0 0 0 0 n) (0 ∷ 1023 ∷ []) (1024 ∷ 65535 ∷ [])
    ∷ clause watchdog_at (0 ∷ 63 ∷ []) (64 ∷ 255 ∷ [])
    ∷ clause (λ (n : ℕ). ddc1 Idle (shifter 0xff n)) (0 ∷ 8 ∷ 9 ∷ []) (10 ∷ 255 ∷ [])
    ∷ []

-- ---- reserved bits

-- the bits below n that a mask has, or has not
abbrev pub bits_where : Bool → ℕ → ℕ → List ℕ
bits_where has mask zero = []
bits_where has mask (suc k) = pick (bit k mask) (pick has (k ∷ bits_where has mask k) (bits_where has mask k)) (pick has (bits_where has mask k) (k ∷ bits_where has mask k))

-- a byte's bits one by one the other way than at reset: those of the mask may be, the others are reserved
abbrev pub reserves : (ℕ → Chip) → ℕ → ℕ → Clause
reserves put reset mask = clause (λ (k : ℕ). put (bit_xor reset (2 ^ k))) (bits_where true mask 8) (bits_where false mask 8)

-- a place of the array
abbrev pub stored_at : ℕ → ℕ → Chip
stored_at a byte = chip_of (set fresh.registers a byte) fresh.core

abbrev pub place : ℕ → ℕ → ℕ → Clause
place a reset mask = reserves (stored_at a) reset mask

-- the 14 registers of the D/A converters, alike
abbrev pub places : ℕ → ℕ → ℕ → ℕ → List Clause
places zero a reset mask = []
places (suc n) a reset mask = place a reset mask ∷ places n (suc a) reset mask

-- by register: its reset value, and the bits that a write changes; none of a place that is not used, whose register stores nothing or
-- stands apart
unfoldable pub stored : List Clause
stored =
    place PT0 0xff 0xff ∷ place PT1 0x7f 0x3f ∷ place PT2DIR 0xff 0xff ∷ place PT2 0xff 0xff ∷ place PT3 0x03 0x03
    ∷ place MDCON 0x07 0x00 ∷ place HVCON 0x2f 0x00
    ∷ place HCNTL 0x00 0x00 ∷ place HCNTH 0x00 0x00 ∷ place VCNTL 0x00 0x00 ∷ place VCNTH 0x00 0x00
    ∷ place SYNCON 0xff 0xdf ∷ place ENDAC 0xff 0xff ∷ place AD0 0xc0 0x00 ∷ place AD1 0x00 0x00
    ∷ place IEX 0x00 0x3f ∷ place IRQX 0x00 0x00 ∷ place CLRFLG 0x00 0x00 ∷ place CLRWDT 0x00 0x00
    ∷ place IIADR 0xff 0x00 ∷ place IIDAT 0x00 0x00 ∷ place IISTS 0x08 0x00 ∷ place BT 0x00 0x00 ∷ place BTCON 0x03 0x03
    ∷ places 14 DACH0 0x80 0xff

-- what stands apart: the six flags; of MDCON four bits, of HVCON the four polarities; of II STS six bits, of II ADR seven; all of
-- II DAT and BT; of the levels outside those of 8 pins, of 7, and of 8
abbrev pub status_at : ℕ → Chip
status_at b = bus_at b 0x07 Idle unused_shifter

abbrev pub levels : ℕ → ℕ → ℕ → Chip
levels port0 port1 port2 = fresh_but (with_pins fresh.core (record { port0 = port0; port1 = port1; port2 = port2; hsynci = true; vsynci = true }))

unfoldable pub apart : List Clause
apart =
    reserves (λ (b : ℕ). fresh_but (with_irqx fresh.core b)) 0x00 0x3f
    ∷ reserves (λ (b : ℕ). fresh_but (with_mdcon fresh.core b)) 0x07 0x0f
    ∷ reserves (λ (b : ℕ). fresh_but (with_polarity fresh.core b)) 0x0f 0x0f
    ∷ reserves status_at 0x08 0x3f
    ∷ reserves (λ (b : ℕ). fresh_but (with_bus fresh.core (bus_of 0x08 b 0x00 Idle unused_shifter))) 0xff 0xfe
    ∷ reserves (λ (b : ℕ). fresh_but (with_bus fresh.core (bus_of 0x08 0xff b Idle unused_shifter))) 0x00 0xff
    ∷ reserves (λ (b : ℕ). fresh_but (with_bt fresh.core b)) 0x00 0xff
    ∷ reserves (λ (b : ℕ). levels b 0x7f 0xff) 0xff 0xff
    ∷ reserves (λ (b : ℕ). levels 0xff b 0xff) 0x7f 0x7f
    ∷ reserves (λ (b : ℕ). levels 0xff 0x7f b) 0xff 0xff
    ∷ []

-- ---- the mode

-- one phase of each kind but idle, each well formed in DDC2B
abbrev pub transfers : List Phase
transfers = Address 0 0 ∷ Addressed A0 0xa0 false ∷ Ignoring ∷ Receive A0 0 0 ∷ Transmit A0 1 0xff ∷ Held A0 0 ∷ []

-- idle with DDC off or in DDC1, any phase in DDC2B; nine edges left with DDC off or in DDC2B; ones in the shift register at nine, any
-- byte in DDC1 below nine
unfoldable pub modes : List Clause
modes =
    clause (λ (phase : Phase). off phase unused_shifter) (Idle ∷ []) transfers
    ∷ clause (λ (phase : Phase). ddc1 phase unused_shifter) (Idle ∷ []) transfers
    ∷ clause in_phase (Idle ∷ transfers) []
    ∷ clause (λ (n : ℕ). off Idle (shifter 0xff n)) (9 ∷ []) (0 ∷ 8 ∷ 10 ∷ [])
    ∷ clause (λ (n : ℕ). ddc2b Idle (shifter 0xff n)) (9 ∷ []) (0 ∷ 8 ∷ 10 ∷ [])
    ∷ clause (λ (byte : ℕ). off Idle (shifter byte 9)) (0xff ∷ []) (0xfe ∷ 0x7f ∷ [])
    ∷ clause (λ (byte : ℕ). ddc1 Idle (shifter byte 9)) (0xff ∷ []) (0xfe ∷ 0x7f ∷ [])
    ∷ clause (λ (byte : ℕ). ddc2b Idle (shifter byte 9)) (0xff ∷ []) (0xfe ∷ 0x7f ∷ [])
    ∷ clause (λ (byte : ℕ). ddc1 Idle (shifter byte 8)) (0x00 ∷ 0x7f ∷ 0xff ∷ []) []
    ∷ clause (λ (byte : ℕ). ddc1 Idle (shifter byte 0)) (0x00 ∷ 0x7f ∷ 0xff ∷ []) []
    ∷ []

-- ---- the bits gathered so far

-- of each count of bits below n: all of them ones, and one bit more
abbrev pub counts_of : (ℕ → ℕ → Phase) → ℕ → List Clause
counts_of phase zero = []
counts_of phase (suc k) = clause (λ (bits : ℕ). in_phase (phase k bits)) (0 ∷ (2 ^ k - 1) ∷ []) ((2 ^ k) ∷ []) ∷ counts_of phase k

-- an address gathers up to seven bits, and is `Addressed` with the eighth; a receive gathers up to eight, and is past the eighth fall at
-- 9, SDA pulled, and at 10, SDA released (Wish 2); any byte of eight bits
unfoldable pub gathering : List Clause
gathering =
    clause (λ (n : ℕ). in_phase (Address n 0)) (0 ∷ 7 ∷ []) (8 ∷ 255 ∷ [])
    ∷ clause (λ (n : ℕ). in_phase (Receive A0 n 0)) (0 ∷ 8 ∷ 9 ∷ 10 ∷ []) (11 ∷ 255 ∷ [])
    ∷ clause (λ (byte : ℕ). in_phase (Addressed A0 byte false)) (0x00 ∷ 0xff ∷ []) []
    ∷ clause (λ (byte : ℕ). in_phase (Receive A0 8 byte)) (0x00 ∷ 0xff ∷ []) []
    ∷ clause (λ (byte : ℕ). in_phase (Receive A0 9 byte)) (0x00 ∷ 0xff ∷ []) []
    ∷ clause (λ (byte : ℕ). in_phase (Receive A0 10 byte)) (0x00 ∷ 0xff ∷ []) []
    ∷ counts_of Address 8
    ++ counts_of (Receive A0) 8

-- a transmit has put out one to eight bits, awaits its acknowledge (9) or has taken it (10); any byte
unfoldable pub sending : List Clause
sending =
    clause (λ (n : ℕ). in_phase (Transmit A0 n 0xff)) (1 ∷ 8 ∷ 9 ∷ 10 ∷ []) (0 ∷ 11 ∷ 255 ∷ [])
    ∷ clause (λ (byte : ℕ). in_phase (Transmit A0 1 byte)) (0x00 ∷ 0xff ∷ []) []
    ∷ []

-- ---- what no clause forbids

-- the lines and RESET at these levels
abbrev pub lines_at : Bool → Bool → Bool → Chip → Chip
lines_at sda scl reset c = chip_of c.registers (with_reset (with_scl (with_sda c.core sda) scl) reset)

-- a hold of any length (Wish 9) and a transfer by any of the chip's addresses (Wish 12). A count of clocks without a hold, an outcome
-- outside a transfer, and a line pulled otherwise than phase and register say cannot be written down at all: a hold's count and the outcome
-- stand in the phase, and what is pulled is computed
abbrev pub called_by : OwnAddress → List Phase
called_by m = Addressed m 0xfe false ∷ Addressed m 0xfe true ∷ Receive m 0 0 ∷ Transmit m 1 0xff ∷ Held m 0 ∷ []

-- each of these at every level of SDA, SCL and RESET; overflow bits beside any count
abbrev pub at_levels : Phase → List Chip
at_levels phase =
    lines_at true true true (in_phase phase) ∷ lines_at false true true (in_phase phase)
    ∷ lines_at true false true (in_phase phase) ∷ lines_at false false true (in_phase phase)
    ∷ lines_at true true false (in_phase phase) ∷ lines_at false true false (in_phase phase)
    ∷ lines_at true false false (in_phase phase) ∷ lines_at false false false (in_phase phase) ∷ []

abbrev pub allowed : List Chip → Clause
allowed cs = record { within = cs; past = [] }

abbrev pub overflow_at : ℕ → Chip
overflow_at n =
    fresh_but
    (with_sync fresh.core
    (record {
      lines = record { count = record { 0 = n }; latch = record { 0 = 0 }; overflow = true };
      periods = record { count = record { 0 = n }; latch = record { 0 = 0 }; overflow = true };
      interval = 0;
    }))

unfoldable pub free : List Clause
free =
    clause (λ (n : ℕ). in_phase (Held A0 n)) (0 ∷ 1 ∷ 65535 ∷ []) []
    ∷ clause in_phase (called_by A0 ++ called_by IiAdr ++ called_by Both) []
    ∷ allowed (at_levels Idle) ∷ allowed (at_levels Ignoring) ∷ allowed (at_levels (Address 7 0x7f))
    ∷ allowed (at_levels (Addressed A0 0xa0 false)) ∷ allowed (at_levels (Addressed A0 0xa0 true))
    ∷ allowed (at_levels (Receive A0 8 0xff)) ∷ allowed (at_levels (Receive A0 9 0xff)) ∷ allowed (at_levels (Receive A0 10 0xff))
    ∷ allowed (at_levels (Transmit A0 1 0x00)) ∷ allowed (at_levels (Transmit A0 9 0x00)) ∷ allowed (at_levels (Transmit A0 10 0x00))
    ∷ allowed (at_levels (Held A0 0))
    ∷ clause overflow_at (0 ∷ 1 ∷ 4095 ∷ []) []
    ∷ []

-- ---- all

abbrev pub clauses : List Clause
clauses = ranges ++ (stored ++ (apart ++ (modes ++ (gathering ++ (sending ++ free)))))
