-- Reading the eight bytes that a CPU is written as gives the CPU: nothing of it is lost.
-- Assumes nothing.
use Prim.Native.Nat.{ℕ, ◌+◌, ◌*◌, ◌/◌, ◌%◌, ◌<◌}
use mathlib.Core.Path.{◌≡◌}
use mathlib.Core.Bool.{Bool, true, false}
use native.Mathlib.Omega.{arith}
use lib.Dec.{ltb}
use borrow.Author.Tests.{lt-ltb, le-ltb}
use Rattle.bits.specs.Byte.{num}
use Rattle.bits.proofs.Level.{eqb_num}
use Rattle.bits.proofs.Mask.{num_lt}
use Rattle.cpu_operations.specs.declared.Cpu.{Cpu}
use Rattle.cpu_operations.specs.Operations.{flags, pulled_p}
use Rattle.firmware_capi.specs.Call.{cpu_of, flags_byte, cpu_bytes}

-- bit 7, above the lower bits
top : (n : Bool) (low : ℕ) → low < 128 → ltb 127 (num n * 128 + low) ≡ n
top true low h = lt-ltb 127 (128 + low) (omega arith)
top false low h = le-ltb 127 (0 + low) (omega (arith, h))

flags_back : (n v d i z c : Bool) → pulled_p (flags_byte (flags n v d i z c)) ≡ flags n v d i z c
unfolding pulled_p flags_byte
flags_back n v d i z c =
    let b = num n * 128 + num v * 64 + num d * 8 + num i * 4 + num z * 2 + num c in
    let e : b ≡ num n * 128 + (num v * 64 + num d * 8 + num i * 4 + num z * 2 + num c) = omega arith in
    let h7 : ltb 127 b ≡ n = rw e (top n _ (omega (arith, num_lt v, num_lt d, num_lt i, num_lt z, num_lt c))) in
    let h6 : b / 64 % 2 ≡ num v = omega (arith, num_lt v, num_lt d, num_lt i, num_lt z, num_lt c) in
    let h3 : b / 8 % 2 ≡ num d = omega (arith, num_lt d, num_lt i, num_lt z, num_lt c) in
    let h2 : b / 4 % 2 ≡ num i = omega (arith, num_lt i, num_lt z, num_lt c) in
    let h1 : b / 2 % 2 ≡ num z = omega (arith, num_lt z, num_lt c) in
    let h0 : b % 2 ≡ num c = omega (arith, num_lt c) in
    rw (h7, h6, h3, h2, h1, h0, eqb_num v, eqb_num d, eqb_num i, eqb_num z, eqb_num c)

pub cpu_back : (c : Cpu) → cpu_of (cpu_bytes c) ≡ c
unfolding cpu_of cpu_bytes
cpu_back c =
    let p = c.p in
    let h : c.pc % 256 + c.pc / 256 * 256 ≡ c.pc = omega arith in
    rw (flags_back p.n p.v p.d p.i p.z p.c, h)
