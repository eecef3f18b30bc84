-- The pins of the ports, each with the register bit that shows it and the bit that steers it (document 01, "Ports").
use Rattle.std.specs.Prelude.{ℕ, Bool, true, false, ◌&&◌, List, [], ◌∷◌, Ok}
use Rattle.std.specs.Bool.{beq}
use Rattle.bits.specs.Byte.{pick, with_bit}
use Rattle.registers.specs.Names.{PT0, PT1, PT2DIR, PT2, PT3, SYNCON, ENDAC, IISTS, ENDDC}
use Rattle.events.specs.Pins.{SDA, SCL, P16}
use Rattle.events.specs.declared.Event.TheVariants.{Write, Pin}
use Rattle.events.specs.Word.{encode}
use Rattle.chip.specs.State.{fresh}
use Rattle.list_call.specs.Run.{advanced}
use Rattle.bus_transfer_laws.specs.Transfers.{shows}

-- how a pin is used: given away while a bit of a register is 0; never given away; for input alone; for output while a bit is 1
pub data Use : Type 0 where
  given_by : ℕ → ℕ → Use
  unshared : Use
  input : Use
  directed_by : ℕ → ℕ → Use

-- a pin by its number, the register that shows it and its place there
pub record PortPin : Type 0 where
  pub pin : ℕ
  pub register : ℕ
  pub place : ℕ
  pub used_as : Use

abbrev pub port_pin : ℕ → ℕ → ℕ → Use → PortPin
port_pin pin register place used_as = record { pin = pin; register = register; place = place; used_as = used_as }

-- bits of SYNCON
abbrev pub ENV : ℕ
ENV = 0

abbrev pub ENH : ℕ
ENH = 1

abbrev pub ENHALF : ℕ
ENHALF = 6

-- ENDK8 to ENDK13 are bits 0 to 5 of ENDAC, ENAD0 and ENAD1 its bits 6 and 7
unfoldable pub port_pins : List PortPin
port_pins =
    port_pin 0 PT0 0 (given_by ENDAC 0)
    ∷ port_pin 1 PT0 1 (given_by ENDAC 1)
    ∷ port_pin 2 PT0 2 (given_by ENDAC 2)
    ∷ port_pin 3 PT0 3 (given_by ENDAC 3)
    ∷ port_pin 4 PT0 4 (given_by ENDAC 4)
    ∷ port_pin 5 PT0 5 (given_by ENDAC 5)
    ∷ port_pin 6 PT0 6 (given_by SYNCON ENV)
    ∷ port_pin 7 PT0 7 (given_by SYNCON ENH)
    ∷ port_pin 8 PT1 0 (given_by ENDAC 6)
    ∷ port_pin 9 PT1 1 (given_by ENDAC 7)
    ∷ port_pin 10 PT1 2 (given_by SYNCON ENHALF)
    ∷ port_pin 11 PT1 3 (given_by SYNCON ENHALF)
    ∷ port_pin 12 PT1 4 unshared
    ∷ port_pin 13 PT1 5 unshared
    ∷ port_pin P16 PT1 6 input
    ∷ port_pin 16 PT2 0 (directed_by PT2DIR 0)
    ∷ port_pin 17 PT2 1 (directed_by PT2DIR 1)
    ∷ port_pin 18 PT2 2 (directed_by PT2DIR 2)
    ∷ port_pin 19 PT2 3 (directed_by PT2DIR 3)
    ∷ port_pin 20 PT2 4 (directed_by PT2DIR 4)
    ∷ port_pin 21 PT2 5 (directed_by PT2DIR 5)
    ∷ port_pin 22 PT2 6 (directed_by PT2DIR 6)
    ∷ port_pin 23 PT2 7 (directed_by PT2DIR 7)
    ∷ port_pin SDA PT3 0 (given_by IISTS ENDDC)
    ∷ port_pin SCL PT3 1 (given_by IISTS ENDDC)
    ∷ []

-- what a pin reads, by its latch, its outside level and the bit that steers it
unfoldable pub pin_reads : Use → Bool → Bool → Bool → Bool
pin_reads (given_by register k) latch level steer = pick steer (latch && level) latch
pin_reads unshared latch level steer = latch && level
pin_reads input latch level steer = level
pin_reads (directed_by register k) latch level steer = pick steer latch level

-- a byte with one bit as told and the others all alike
abbrev pub byte_with : Bool → ℕ → Bool → ℕ
byte_with others k value = with_bit (pick others 0xff 0x00) k value

abbrev pub steering : Use → Bool → Bool → List ℕ
steering (given_by register k) others steer = encode (Ok (Write register (byte_with others k steer))) ∷ []
steering unshared others steer = []
steering input others steer = []
steering (directed_by register k) others steer = encode (Ok (Write register (byte_with others k steer))) ∷ []

-- the latch, the steering bit and the level are put; all other bits of the latches and of the steering registers are as `others` says
unfoldable pub port_words : PortPin → Bool → Bool → Bool → Bool → List ℕ
port_words p others latch level steer =
    encode (Ok (Write ENDAC (pick others 0xff 0x00))) ∷ encode (Ok (Write SYNCON (pick others 0xff 0x00))) ∷ encode (Ok (Write p.register (byte_with others p.place latch)))
    ∷ encode (Ok (Pin p.pin level)) ∷ steering p.used_as others steer

-- after them a read from a chip that was fresh shows what the pin reads
unfoldable pub reads_right : PortPin → Bool → Bool → Bool → Bool → Bool
reads_right p others latch level steer =
    beq (shows p.register p.place (advanced fresh (port_words p others latch level steer))) (pin_reads p.used_as latch level steer)

-- at every row of a list and all levels
abbrev pub always : (Bool → Bool) → Bool
always f = f true && f false

abbrev pub read_right : List PortPin → Bool
read_right [] = true
read_right (p ∷ ps) = always (λ others. always (λ latch. always (λ level. always (reads_right p others latch level)))) && read_right ps
