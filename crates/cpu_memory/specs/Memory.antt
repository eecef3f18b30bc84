-- The address map of the CPU (document 02, Wish 5): registers 0000..0025, RAM 0080..017F, of which 0080..00FF is seen again at
-- 0180..01FF, ROM A000..FFFF. Nothing else is mapped.
use Rattle.std.specs.Prelude.{ℕ, ◌+◌, ◌-◌, ◌*◌, ◌%◌, ◌<◌, ◌≡◌, Bool, false, List, eqb, ltb, get_or}
use Rattle.bits.specs.Byte.{pick}
use Rattle.cpu_memory.specs.declared.Loaded.{Loaded}
use Rattle.cpu_memory.specs.declared.Loaded.TheVariants.{Byte, Refused}
use Rattle.cpu_memory.specs.declared.Place.{Place}
use Rattle.cpu_memory.specs.declared.Place.TheVariants.{Register, Ram, Rom, Unmapped}

-- where an address leads: a register by its number, a place of the 256 of RAM or of the 24,576 of ROM
unfoldable pub place : ℕ → Place
place a =
    pick (ltb a 0xA000)
    (pick (ltb a 0x180)
    (pick (ltb a 0x80) (pick (ltb a 0x26) (Register a) Unmapped) (Ram (a - 0x80)))
    (pick (ltb a 0x200) (Ram (a - 0x180)) Unmapped))
    (Rom (a - 0xA000))

-- a place lies inside what it names
abbrev pub Reaches : Place → Type 0
Reaches (Register r) = r < 38
Reaches (Ram i) = i < 256
Reaches (Rom i) = i < 24576
Reaches Unmapped = Unit {0}

-- ---- reads

-- what is known of a register: the byte that it reads, below 256; 256 and the number of its refusal; or, where the register has not been
-- looked at, 320 and its own number, which is then told as the refusal 64 and that number. The numbers of real refusals are below 64.
unfoldable pub known : ℕ → Loaded
known v = pick (ltb v 256) (Byte v) (Refused (v % 256))

abbrev pub not_seen : ℕ → ℕ
not_seen r = 320 + r

-- a read at a place: 21 where nothing is mapped
abbrev pub memory_at : List ℕ → List ℕ → List ℕ → Place → Loaded
memory_at seen ram rom (Register r) = known (get_or seen r 0)
memory_at seen ram rom (Ram i) = Byte (get_or ram i 0)
memory_at seen ram rom (Rom i) = Byte (get_or rom i 0)
memory_at seen ram rom Unmapped = Refused 21

-- a read at an address
unfoldable pub memory : List ℕ → List ℕ → List ℕ → ℕ → Loaded
memory seen ram rom a = memory_at seen ram rom (place a)

-- ---- the stack, 0100..01FF

-- the address of a stack place, and its place in RAM. S is a byte in the code; modulo 256 both are right for every number, so that no
-- theorem on the stack asks for a byte
abbrev pub stack : ℕ → ℕ
stack s = s % 256 + 256

unfoldable pub stack_place : ℕ → ℕ
stack_place s = (s + 128) % 256

-- S after a push and after a pull: it wraps
abbrev pub below : ℕ → ℕ
below s = pick (eqb s 0) 255 (s - 1)

abbrev pub above : ℕ → ℕ
above s = (s + 1) % 256

-- the address leads to the place of RAM that S points to
abbrev pub is_stack_place : ℕ → Place → Bool
is_stack_place s (Register r) = false
is_stack_place s (Ram i) = eqb i (stack_place s)
is_stack_place s (Rom i) = false
is_stack_place s Unmapped = false

-- reads after a byte has been pushed at S: its place gives it, under each of its addresses
unfoldable pub after_push : ℕ → ℕ → (ℕ → Loaded) → ℕ → Loaded
after_push s b f a = pick (is_stack_place s (place a)) (Byte b) (f a)

-- the word in ROM at two places, the low byte first: a vector
abbrev pub rom_word : List ℕ → ℕ → ℕ
rom_word rom i = get_or rom (i + 1) 0 * 256 + get_or rom i 0

-- ---- number and values of each case of a read

abbrev pub loaded_number : Loaded → ℕ
loaded_number (Byte b) = 0
loaded_number (Refused n) = n

-- a byte is this one
abbrev pub LoadedValues : ℕ → Loaded → Type 0
LoadedValues x (Byte b) = b ≡ x
LoadedValues x (Refused n) = Unit {0}

-- a read whose number is n, 0 for none, and whose byte, where it has one, is b
pub record LoadedCase (n b : ℕ) (l : Loaded) : Type 0 where
  pub number : loaded_number l ≡ n
  pub values : LoadedValues b l

-- RAM and ROM are always read; 21 where nothing is mapped; of a register what is known of it says, which is a number of document 01, or, as no
-- paper has it, 64 and the register's own number where it has not been looked at
abbrev pub number_at : List ℕ → Place → ℕ
number_at seen (Register r) = pick (ltb (get_or seen r 0) 256) 0 (get_or seen r 0 % 256)
number_at seen (Ram i) = 0
number_at seen (Rom i) = 0
number_at seen Unmapped = 21

abbrev pub byte_at : List ℕ → List ℕ → List ℕ → Place → ℕ
byte_at seen ram rom (Register r) = get_or seen r 0
byte_at seen ram rom (Ram i) = get_or ram i 0
byte_at seen ram rom (Rom i) = get_or rom i 0
byte_at seen ram rom Unmapped = 0

-- the same after a byte has been pushed at S: its place is always read, and gives it
abbrev pub number_pushed : ℕ → (Place → ℕ) → Place → ℕ
number_pushed s f p = pick (is_stack_place s p) 0 (f p)

abbrev pub byte_pushed : ℕ → ℕ → (Place → ℕ) → Place → ℕ
byte_pushed s b f p = pick (is_stack_place s p) b (f p)
