-- The arithmetic of the 6502: sums, differences and comparisons of bytes, and the flags that they leave (document 02, Wish 5).
use Rattle.std.specs.Prelude.{ℕ, ◌+◌, ◌-◌, ◌*◌, ◌/◌, ◌%◌, Bool, true, false, eqb, ltb}
use Rattle.bits.specs.Byte.{pick, num}
use Rattle.cpu_arithmetic.specs.declared.Flags.{Flags}
use Rattle.cpu_arithmetic.specs.declared.Digit.{Digit}
use Rattle.cpu_arithmetic.specs.declared.Computed.{Computed}

-- a byte and the flags with it
abbrev pub computed : ℕ → Flags → Computed
computed r f = record { value = r; flags = f }

-- ---- flags

-- N is bit 7 of the byte, Z is 1 for the byte 0
abbrev pub nz : ℕ → Flags → Flags
nz r f = record { n = ltb 127 r; v = f.v; d = f.d; i = f.i; z = eqb r 0; c = f.c }

-- N and Z by the byte, and C
abbrev pub nzc : ℕ → Bool → Flags → Flags
nzc r k f = record { n = ltb 127 r; v = f.v; d = f.d; i = f.i; z = eqb r 0; c = k }

abbrev pub with_carry : Bool → Flags → Flags
with_carry k f = record { n = f.n; v = f.v; d = f.d; i = f.i; z = f.z; c = k }

-- V: both terms have one sign and the sum has the other
abbrev pub overflow : Bool → Bool → Bool → Bool
overflow true true r = pick r false true
overflow true false r = false
overflow false true r = false
overflow false false r = r

-- ---- binary

-- the binary sum of two bytes and C, before it is cut to a byte
abbrev pub total : ℕ → ℕ → Bool → ℕ
total a b k = a + b + num k

-- N, V, Z and C of the binary sum
abbrev pub sum_flags : ℕ → ℕ → Flags → Flags
sum_flags a b f =
    record {
      n = ltb 127 (total a b f.c % 256);
      v = overflow (ltb 127 a) (ltb 127 b) (ltb 127 (total a b f.c % 256));
      d = f.d;
      i = f.i;
      z = eqb (total a b f.c % 256) 0;
      c = ltb 255 (total a b f.c);
    }

abbrev pub binary_sum : ℕ → ℕ → Flags → Computed
binary_sum a b f = computed (total a b f.c % 256) (sum_flags a b f)

-- ---- decimal: the digit rule of the wish

-- a digit of a sum: above 9 it gains 6, keeps four bits and carries one
unfoldable pub digit_sum : ℕ → ℕ → Bool → Digit
digit_sum a b k =
    pick (ltb 9 (a + b + num k)) (record { value = (a + b + num k + 6) % 16; carry = true }) (record { value = a + b + num k; carry = false })

-- a digit of a difference: below 0 it loses 6, keeps four bits and borrows one. The carry is the 6502's, 1 for no borrow; 32 is
-- added so that the number stays one, and goes again with the upper bits.
unfoldable pub digit_difference : ℕ → ℕ → Bool → Digit
digit_difference a b k =
    pick (ltb (a + num k) (b + 1)) (record { value = (a + num k + 32 - (b + 1) - 6) % 16; carry = false }) (record { value = a + num k - (b + 1); carry = true })

-- the lower digit, then the upper one with its carry
unfoldable pub decimal_sum : ℕ → ℕ → Bool → Digit
decimal_sum a b k =
    record {
      value = (digit_sum (a / 16) (b / 16) (digit_sum (a % 16) (b % 16) k).carry).value * 16 + (digit_sum (a % 16) (b % 16) k).value;
      carry = (digit_sum (a / 16) (b / 16) (digit_sum (a % 16) (b % 16) k).carry).carry;
    }

unfoldable pub decimal_difference : ℕ → ℕ → Bool → Digit
decimal_difference a b k =
    record {
      value = (digit_difference (a / 16) (b / 16) (digit_difference (a % 16) (b % 16) k).carry).value * 16 + (digit_difference (a % 16) (b % 16) k).value;
      carry = (digit_difference (a / 16) (b / 16) (digit_difference (a % 16) (b % 16) k).carry).carry;
    }

-- a decimal result: C of the upper digit, and N, V and Z of the binary result, whose flags are g
abbrev pub decimal : Digit → Flags → Computed
decimal t g = computed t.value (with_carry t.carry g)

-- ---- ADC, SBC, CMP

-- A + the byte + C, decimal where D is 1
unfoldable pub adc : ℕ → ℕ → Flags → Computed
adc a b f = pick f.d (decimal (decimal_sum a b f.c) (sum_flags a b f)) (binary_sum a b f)

-- A - the byte - (1 - C), which in binary is the sum with the byte's complement
unfoldable pub sbc : ℕ → ℕ → Flags → Computed
sbc a b f = pick f.d (decimal (decimal_difference a b f.c) (sum_flags a (255 - b) f)) (binary_sum a (255 - b) f)

-- a register less a byte: N and Z of the difference, C where there is no borrow
unfoldable pub compared : ℕ → ℕ → Flags → Flags
compared r b f = nzc ((r + 256 - b) % 256) (ltb b (r + 1)) f
