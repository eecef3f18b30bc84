-- Addresses of which is known where they lead: ROM and the stack.
use Prim.Native.Nat.{ℕ, ◌+◌, ◌-◌, ◌%◌, ◌≤◌}
use mathlib.Core.Path.{◌≡◌, refl, ap}
use mathlib.Core.Bool.{Bool, true, false}
use mathlib.Core.List.{List}
use native.Mathlib.Omega.{arith}
use lib.Dec.{ltb}
use lib.ListN.{get_or}
use borrow.Author.Tests.{lt-ltb, le-ltb, ltb-true, ltb-false}
use Rattle.bits.specs.Byte.{pick}
use Rattle.cpu_memory.specs.declared.Loaded.TheVariants.{Byte}
use Rattle.cpu_memory.specs.declared.Place.TheVariants.{Register, Ram, Rom, Unmapped}
use Rattle.cpu_memory.specs.Memory.{place, memory, stack, stack_place}

-- from A000 on a read gives a place of ROM, and is never refused
pub read_rom : (seen ram rom : List ℕ) (a : ℕ) → 0xA000 ≤ a → memory seen ram rom a ≡ Byte (get_or rom (a - 0xA000) 0)
unfolding memory place
read_rom seen ram rom a h = simp (le-ltb _ _ h) refl

stack_by : (b : Bool) (s : ℕ) → ltb (stack s) 0x180 ≡ b
    → pick (ltb (stack s) 0xA000) (pick b (pick (ltb (stack s) 0x80) (pick (ltb (stack s) 0x26) (Register (stack s)) Unmapped) (Ram (stack s - 0x80)))
    (pick (ltb (stack s) 0x200) (Ram (stack s - 0x180)) Unmapped)) (Rom (stack s - 0xA000)) ≡ Ram ((s + 128) % 256)
stack_by true s e = rw (lt-ltb (stack s) 0xA000 (omega arith), le-ltb (stack s) 0x80 (omega arith)) (ap Ram (omega (arith, ltb-true (stack s) 0x180 e)))
stack_by false s e = rw (lt-ltb (stack s) 0xA000 (omega arith), lt-ltb (stack s) 0x200 (omega arith)) (ap Ram (omega (arith, ltb-false (stack s) 0x180 e)))

-- the stack is RAM, whatever S is
pub stack_leads : (s : ℕ) → place (stack s) ≡ Ram (stack_place s)
unfolding place stack_place
stack_leads s = stack_by (ltb (stack s) 0x180) s refl
