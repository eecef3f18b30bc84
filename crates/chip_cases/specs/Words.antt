-- Words for a run, by what they do (document 01, "Event words"). Each is a list, so that runs are joined with `++`.
use Rattle.std.specs.Prelude.{ℕ, zero, suc, Bool, true, false, List, [], ◌∷◌, ◌++◌, Ok}
use Rattle.bits.specs.Byte.{bit}
use Rattle.events.specs.declared.Event.TheVariants.{Read, Write, Pin, Clock}
use Rattle.events.specs.Word.{encode}
use Rattle.events.specs.Pins.{SDA, SCL}

-- a list n times over
abbrev pub times : ℕ → List ℕ → List ℕ
times zero ws = []
times (suc n) ws = ws ++ times n ws

abbrev pub read : ℕ → List ℕ
read a = encode (Ok (Read a)) ∷ []

abbrev pub write : ℕ → ℕ → List ℕ
write a b = encode (Ok (Write a b)) ∷ []

abbrev pub high : ℕ → List ℕ
high pin = encode (Ok (Pin pin true)) ∷ []

abbrev pub low : ℕ → List ℕ
low pin = encode (Ok (Pin pin false)) ∷ []

abbrev pub clock : ℕ → List ℕ
clock k = encode (Ok (Clock k)) ∷ []

-- a pulse: the pin falls and rises
abbrev pub pulse : ℕ → List ℕ
pulse pin = low pin ++ high pin

-- ---- the bus, as a master drives it

-- START: SDA falls while SCL is high
abbrev pub start : List ℕ
start = low SDA

-- one bit: SCL falls, SDA takes the bit, SCL rises
abbrev pub send_bit : Bool → List ℕ
send_bit true = low SCL ++ high SDA ++ high SCL
send_bit false = low SCL ++ low SDA ++ high SCL

-- a byte, its top bit first: 24 words, the last of them the eighth rise of SCL
abbrev pub send_from : ℕ → ℕ → List ℕ
send_from zero byte = []
send_from (suc k) byte = send_bit (bit k byte) ++ send_from k byte

abbrev pub send : ℕ → List ℕ
send byte = send_from 8 byte
