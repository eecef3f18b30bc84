-- The firmware call on areas that the caller lends (document 02, Wishes 5 and 14): a CPU as eight bytes, and what the call leaves.
use Rattle.std.specs.Prelude.{ℕ, ◌+◌, ◌*◌, ◌/◌, ◌%◌, Bool, true, false, List, [], ◌∷◌, eqb, length, get_or}
use Rattle.bits.specs.Byte.{pick, num}
use Rattle.chip.specs.declared.Chip.{Chip}
use Rattle.cpu_arithmetic.specs.declared.Flags.{Flags}
use Rattle.cpu_operations.specs.declared.Cpu.{Cpu}
use Rattle.cpu_operations.specs.Operations.{pulled_p}
use Rattle.firmware_machine.specs.Run.{Called, firmware}
use Rattle.state_bytes.specs.Layout.{bytes_of}
use Rattle.state_area.specs.Area.{number_in, state_in}

-- ---- a CPU as eight bytes: A, X, Y, S, P, PC with its low byte first, cycles over. Of P bits 5 and 4 count for nothing and come back as 0

unfoldable pub cpu_of : List ℕ → Cpu
cpu_of l = record {
  a = get_or l 0 0;
  x = get_or l 1 0;
  y = get_or l 2 0;
  s = get_or l 3 0;
  p = pulled_p (get_or l 4 0);
  pc = get_or l 5 0 + get_or l 6 0 * 256;
  over = get_or l 7 0;
}

unfoldable pub flags_byte : Flags → ℕ
flags_byte f = num f.n * 128 + num f.v * 64 + num f.d * 8 + num f.i * 4 + num f.z * 2 + num f.c

unfoldable pub cpu_bytes : Cpu → List ℕ
cpu_bytes c = c.a ∷ c.x ∷ c.y ∷ c.s ∷ flags_byte c.p ∷ c.pc % 256 ∷ c.pc / 256 ∷ c.over ∷ []

-- ---- what the call gives and leaves

pub record Left : Type 0 where
  pub number : ℕ
  pub cpu : List ℕ
  pub ram : List ℕ
  pub area : List ℕ
  pub answers : List ℕ
  pub counts : List ℕ

abbrev pub left : ℕ → List ℕ → List ℕ → List ℕ → List ℕ → List ℕ → Left
left n cpu ram area answers counts = record { number = n; cpu = cpu; ram = ram; area = area; answers = answers; counts = counts }

-- the run began: its number is none of those before it
unfoldable pub has_begun : ℕ → Bool
has_begun n = pick (eqb n 8) false (pick (eqb n 22) false (pick (eqb n 7) false true))

-- two counts: instructions, and events given (modulo 2^32)
abbrev pub counts_of : ℕ → ℕ → List ℕ
counts_of counted given = counted ∷ given % 4294967296 ∷ []

-- all is written back where the run began, else nothing
abbrev pub left_by : Called → List ℕ → List ℕ → List ℕ → List ℕ → Left
left_by d cpu ram area counts =
    pick (has_begun d.number)
    (left d.number (cpu_bytes d.cpu) d.ram (bytes_of d.chip) d.answers (counts_of d.counted d.given))
    (left d.number cpu ram area d.answers counts)

-- the call on a state
unfoldable pub run_in : List ℕ → List ℕ → List ℕ → Chip → List ℕ → List ℕ → List ℕ → ℕ → List ℕ → Left
run_in cpu ram rom chip area es places n counts = left_by (firmware (cpu_of cpu) ram rom chip es places n) cpu ram area counts

-- eight bytes of CPU, 256 of RAM, 128 of the chip, two counts
unfoldable pub are_sized : ℕ → ℕ → ℕ → ℕ → Bool
are_sized cpu ram area counts =
    pick (eqb cpu 8) (pick (eqb ram 256) (pick (eqb area 128) (pick (eqb counts 2) true false) false) false) false

-- the call: 15 for a wrong length of these, then 8 for the chip's bytes, nothing touched; then the call on the state that they are
unfoldable pub firmware_in : List ℕ → List ℕ → List ℕ → List ℕ → List ℕ → List ℕ → ℕ → List ℕ → Left
firmware_in cpu ram rom area es places n counts =
    pick (are_sized (length cpu) (length ram) (length area) (length counts))
    (pick (eqb (number_in area) 0)
    (run_in cpu ram rom (state_in area) area es places n counts)
    (left (number_in area) cpu ram area places counts))
    (left 15 cpu ram area places counts)
