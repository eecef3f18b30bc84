-- What is printed of a firmware run, as bytes; hex digits are in upper case.
use Rattle.std.specs.Prelude.{ℕ, ◌+◌, ◌-◌, ◌/◌, ◌%◌, false, List, [], ◌∷◌, ◌++◌, take, set}
use Rattle.hex_digits.specs.Hex.{hex_digit, hex_line}
use Rattle.cpu_arithmetic.specs.declared.Flags.{Flags}
use Rattle.cpu_operations.specs.declared.Cpu.{Cpu}
use Rattle.cpu_operations.specs.Operations.{pushed_p}

-- a line with the two digits of a byte at a place
abbrev pub with_byte : List ℕ → ℕ → ℕ → List ℕ
with_byte line i b = set (set line i (hex_digit (b / 16))) (i + 1) (hex_digit (b % 16))

-- P as it would be pushed by an interrupt, without bit 5; bit 4, B, is then 0
abbrev pub shown_p : Flags → ℕ
shown_p f = pushed_p f false - 32

-- the two digits of a byte before what follows, and the four of an address
abbrev pub byte_then : ℕ → List ℕ → List ℕ
byte_then b l = hex_digit (b / 16) ∷ hex_digit (b % 16) ∷ l

abbrev pub address_then : ℕ → List ℕ → List ℕ
address_then a l = byte_then (a / 256) (byte_then (a % 256) l)

-- `A=.. X=.. Y=.. S=.. P=.. PC=.... over=..` and a newline
unfoldable pub register_line : Cpu → List ℕ
register_line c =
    65 ∷ 61 ∷ byte_then c.a
    (32 ∷ 88 ∷ 61 ∷ byte_then c.x
    (32 ∷ 89 ∷ 61 ∷ byte_then c.y
    (32 ∷ 83 ∷ 61 ∷ byte_then c.s
    (32 ∷ 80 ∷ 61 ∷ byte_then (shown_p c.p)
    (32 ∷ 80 ∷ 67 ∷ 61 ∷ address_then c.pc
    (32 ∷ 111 ∷ 118 ∷ 101 ∷ 114 ∷ 61 ∷ byte_then c.over (10 ∷ [])))))))

-- the place of an instruction and its opcode, with a space before, between and behind; `--` where there is none
unfoldable pub instruction_text : ℕ → ℕ → List ℕ
instruction_text pc opcode = 32 ∷ address_then pc (32 ∷ byte_then opcode (32 ∷ []))

unfoldable pub idle_text : ℕ → List ℕ
idle_text pc = 32 ∷ address_then pc (32 ∷ 45 ∷ 45 ∷ 32 ∷ [])

-- ` event `, the eight digits of the word, a space, and the answer's line
unfoldable pub event_text : ℕ → ℕ → List ℕ
event_text word answer = 32 ∷ 101 ∷ 118 ∷ 101 ∷ 110 ∷ 116 ∷ 32 ∷ (take 8 (hex_line word) ++ (32 ∷ hex_line answer))
