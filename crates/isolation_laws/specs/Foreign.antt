-- Two runs through transfers that are not for this chip (document 01, "How tight each statement is"): what is presumed of
-- the two lists of words, and what is then the same. The premises look at words, outside levels, II ADR and watchdog clocks.
use Rattle.std.specs.Prelude.{ℕ, ◌+◌, ◌*◌, ◌/◌, ◌≡◌, List, [], ◌∷◌, Bool, true, false, not, ◌&&◌, ◌||◌, length, eqb, ltb, Ok, Err}
use Rattle.std.specs.Bool.{beq}
use Rattle.bits.specs.Byte.{pick, num, bit}
use Rattle.registers.specs.Names.{MDCON, CLRWDT, IIADR, IIDAT, IISTS, MD12, ENDDC}
use Rattle.events.specs.Pins as pin
use Rattle.events.specs.Clocks as clock
use Rattle.registers.specs.Table.{is_writable}
use Rattle.events.specs.Decoded.{Decoded}
use Rattle.events.specs.Kinds.{on_read, on_pin}
use Rattle.events.specs.declared.Event.TheVariants.{Read, Write, Pin, Clock, Polarity}
use Rattle.events.specs.Word.{decode}
use Rattle.bus.specs.declared.Phase.{Phase}
use Rattle.bus.specs.declared.Phase.TheVariants.{Idle, Address, Addressed, Ignoring, Receive, Transmit, Held}
use Rattle.bus_ddc2b.specs.Ddc2b.{start_phase, matches}
use Rattle.chip.specs.declared.Core.{Core}
use Rattle.chip.specs.declared.Chip.{Chip}
use Rattle.chip.specs.State.{bus_of, chip_of}
use Rattle.list_call.specs.Run.{after, answers, run, run_answers}

-- ---- the two lists

-- a pin event at SDA, whatever level it brings
abbrev pub touches_sda : Decoded → Bool
touches_sda = on_pin false (λ p level. eqb p pin.SDA)

-- words that may stand at one place of the two lists: the same, or both touching SDA
abbrev pub same_but_sda : ℕ → ℕ → Bool
same_but_sda w v = eqb w v || (touches_sda (decode w) && touches_sda (decode v))

-- two lists equally long, the same word by word but for SDA's levels
abbrev pub alike : List ℕ → List ℕ → Bool
alike [] [] = true
alike [] (v ∷ vs) = false
alike (w ∷ ws) [] = false
alike (w ∷ ws) (v ∷ vs) = same_but_sda w v && alike ws vs

-- ---- an observer of the words

-- what SDA was at each rise of SCL that the chip could see after its latest START, newest first; `none` where no transfer is
-- under way
pub data Trace : Type 0 where
  none : Trace
  since : List Bool → Trace

-- the number that these levels make: the first of them is the top bit
abbrev pub byte_of : List Bool → ℕ
byte_of [] = 0
byte_of (level ∷ levels) = byte_of levels * 2 + num level

-- what the observer keeps: three outside levels, the byte for II ADR, the watchdog clocks counted, and the trace
pub record Observer : Type 0 where
  pub sda : Bool
  pub scl : Bool
  pub reset : Bool
  pub own : ℕ
  pub watchdog : ℕ
  pub trace : Trace

-- the observer at the first state
abbrev pub observer_of : Chip → Trace → Observer
observer_of c trace =
    record { sda = c.core.sda; scl = c.core.scl; reset = c.core.reset; own = c.core.bus.iiadr; watchdog = c.core.watchdog; trace = trace }

-- a write that the chip carries out: neither number 4 nor number 6
abbrev pub accepted : Observer → ℕ → Bool
accepted o a = o.reset && is_writable a

-- of the writes carried out, one to II ADR brings its byte, and 55H to CLRWDT begins the count of watchdog clocks anew
abbrev pub observe_write : Observer → ℕ → ℕ → Observer
observe_write o a b =
    record {
      sda = o.sda;
      scl = o.scl;
      reset = o.reset;
      own = pick (accepted o a && eqb a IIADR) b o.own;
      watchdog = pick (accepted o a && (eqb a CLRWDT && eqb b 0x55)) 0 o.watchdog;
      trace = o.trace;
    }

-- with SCL and RESET high a fall of SDA begins a transfer and a rise ends it
abbrev pub trace_at_sda : Observer → Bool → Trace
trace_at_sda o level = pick (o.scl && o.reset) (pick o.sda (pick level o.trace (since [])) (pick level none o.trace)) o.trace

-- a rise of SCL that the chip can see
abbrev pub scl_rises : Observer → Bool → Bool
scl_rises o level = o.reset && (not o.scl && level)

-- a further level, where a START was seen
abbrev pub gather : Bool → Trace → Trace
gather sda none = none
gather sda (since levels) = since (sda ∷ levels)

abbrev pub trace_at_scl : Observer → Bool → Trace
trace_at_scl o level = pick (scl_rises o level) (gather o.sda o.trace) o.trace

-- SDA, SCL and RESET put their levels; the other pins are not looked at
abbrev pub observe_pin : Observer → ℕ → Bool → Observer
observe_pin o p level =
    record {
      sda = pick (eqb p pin.SDA) level o.sda;
      scl = pick (eqb p pin.SCL) level o.scl;
      reset = pick (eqb p pin.RESET) level o.reset;
      own = o.own;
      watchdog = o.watchdog;
      trace = pick (eqb p pin.SDA) (trace_at_sda o level) (pick (eqb p pin.SCL) (trace_at_scl o level) o.trace);
    }

-- the watchdog's count stands while RESET is low
abbrev pub observe_clock : Observer → ℕ → Observer
observe_clock o k =
    record {
      sda = o.sda;
      scl = o.scl;
      reset = o.reset;
      own = o.own;
      watchdog = pick (o.reset && eqb k clock.watchdog) (o.watchdog + 1) o.watchdog;
      trace = o.trace;
    }

unfoldable pub observe : Observer → Decoded → Observer
observe o (Ok (Read a)) = o
observe o (Ok (Write a b)) = observe_write o a b
observe o (Ok (Pin p level)) = observe_pin o p level
observe o (Ok (Clock k)) = observe_clock o k
observe o (Ok (Polarity vertical level)) = o
observe o (Err r) = o

-- ---- what a run may not do

-- a 1 to ENDDC of II STS turns DDC off
abbrev pub turns_off : ℕ → ℕ → Bool
turns_off a b = eqb a IISTS && bit ENDDC b

-- a 1 to MD1/2 of MDCON asks for DDC1
abbrev pub asks_ddc1 : ℕ → ℕ → Bool
asks_ddc1 a b = eqb a MDCON && bit MD12 b

-- with seven levels gathered the next one makes a whole address; this one is the chip's ("The bus")
abbrev pub completes_match : ℕ → Bool → Trace → Bool
completes_match own sda none = false
completes_match own sda (since levels) = eqb (length levels) 7 && matches own (byte_of (sda ∷ levels))

-- a level that resets the chip by its RESET pin; 0 over 0 is none
abbrev pub reset_falls : Observer → Bool → Bool
reset_falls o level = o.reset && not level

-- the watchdog clock that resets the chip: 63 were counted before it
abbrev pub watchdog_expires : Observer → ℕ → Bool
watchdog_expires o k = o.reset && (eqb k clock.watchdog && not (ltb o.watchdog 63))

-- what each event of a run must keep to: DDC2B stays selected, no address is the chip's, and nothing resets it
unfoldable pub permitted : Observer → Decoded → Bool
permitted o (Ok (Read a)) = true
permitted o (Ok (Write a b)) = not (accepted o a && turns_off a b) && not (accepted o a && asks_ddc1 a b)
permitted o (Ok (Pin p level)) =
    pick (eqb p pin.SCL) (not (scl_rises o level && completes_match o.own o.sda o.trace))
    (pick (eqb p pin.RESET) (not (reset_falls o level)) true)
permitted o (Ok (Clock k)) = not (watchdog_expires o k)
permitted o (Ok (Polarity vertical level)) = true
permitted o (Err r) = true

-- SDA is not touched while SCL is high, also with RESET low
unfoldable pub untouched : Observer → Decoded → Bool
untouched o e = not (o.scl && touches_sda e)

-- a test holds at each word of a list
abbrev pub throughout : (Observer → Decoded → Bool) → Observer → List ℕ → Bool
throughout test o [] = true
throughout test o (w ∷ ws) = test o (decode w) && throughout test (observe o (decode w)) ws

-- what is presumed of the two lists, SDA being left alone while SCL is high. One list is enough for that: the other touches
-- SDA at the same places
pub record OneTransfer (o : Observer) (ws vs : List ℕ) : Type 0 where
  pub words : alike ws vs ≡ true
  pub left : throughout permitted o ws ≡ true
  pub right : throughout permitted o vs ≡ true
  pub sda : throughout untouched o ws ≡ true

-- ---- several transfers: SDA may move while SCL is high, equally in both runs

-- SDA touched while SCL is high: by the same word, SDA's levels being equal just before
abbrev pub equal_at_high : Observer → Observer → ℕ → ℕ → Bool
equal_at_high o p w v = untouched o (decode w) || (eqb w v && beq o.sda p.sda)

abbrev pub equal_throughout : Observer → Observer → List ℕ → List ℕ → Bool
equal_throughout o p [] vs = true
equal_throughout o p (w ∷ ws) [] = true
equal_throughout o p (w ∷ ws) (v ∷ vs) = equal_at_high o p w v && equal_throughout (observe o (decode w)) (observe p (decode v)) ws vs

-- what is presumed of the two lists
pub record SeveralTransfers (o p : Observer) (ws vs : List ℕ) : Type 0 where
  pub words : alike ws vs ≡ true
  pub left : throughout permitted o ws ≡ true
  pub right : throughout permitted p vs ≡ true
  pub sda : equal_throughout o p ws vs ≡ true

-- the phase of the first state and the trace that goes with it: a START just seen, or a bus found idle
pub data Begun : Phase → Trace → Type 0 where
  start_seen : Begun start_phase (since [])
  bus_idle : Begun Idle none

-- ---- what is the same

-- II DAT is read
abbrev pub reads_data : Decoded → Bool
reads_data = on_read false (λ a. eqb a IIDAT)

-- the part of an answer that is compared: all of it, or bits 31..8 where II DAT is read and the number, bits 31..24, is 0
abbrev pub compared_answer : Decoded → ℕ → ℕ
compared_answer e answer = pick (reads_data e && eqb (answer / 16777216) 0) (answer / 256) answer

abbrev pub compared_answers : List ℕ → List ℕ → List ℕ
compared_answers [] xs = []
compared_answers (w ∷ ws) [] = []
compared_answers (w ∷ ws) (x ∷ xs) = compared_answer (decode w) x ∷ compared_answers ws xs

-- the part of the phase that is compared: all but the bits of an address under way
abbrev pub compared_phase : Phase → Phase
compared_phase Idle = Idle
compared_phase (Address count bits) = Address count 0
compared_phase (Addressed matched bits ninth) = Addressed matched bits ninth
compared_phase Ignoring = Ignoring
compared_phase (Receive matched count bits) = Receive matched count bits
compared_phase (Transmit matched count byte) = Transmit matched count byte
compared_phase (Held matched clocks) = Held matched clocks

-- the part of a state that is compared: all but SDA's level, II DAT and the address bits gathered
abbrev pub compared_core : Core → Core
compared_core c =
    record {
      irqx = c.irqx;
      mdcon = c.mdcon;
      polarity = c.polarity;
      bt = c.bt;
      watchdog = c.watchdog;
      sync = c.sync;
      bus = bus_of c.bus.iists c.bus.iiadr 0 (compared_phase c.bus.phase) c.bus.shifter;
      pins = c.pins;
      sda = false;
      scl = c.scl;
      reset = c.reset;
    }

abbrev pub compared_state : Chip → Chip
compared_state c = chip_of c.registers (compared_core c.core)

-- two runs agree: through the words ws and vs, with the answers xs and ys, to the states c and d
pub record Agree (ws vs xs ys : List ℕ) (c d : Chip) : Type 0 where
  pub answers_agree : compared_answers ws xs ≡ compared_answers vs ys
  pub states_agree : compared_state c ≡ compared_state d

-- the two runs by the step from one state
abbrev pub RunsAgree : Chip → List ℕ → List ℕ → Type 0
RunsAgree c ws vs = Agree ws vs (answers c ws) (answers c vs) (after c ws) (after c vs)

-- two list calls from one state, with the answer places xs and ys
abbrev pub CallsAgree : Chip → List ℕ → List ℕ → List ℕ → List ℕ → Type 0
CallsAgree c ws vs xs ys = Agree ws vs (run_answers c ws xs) (run_answers c vs ys) (run c ws xs).chip (run c vs ys).chip
