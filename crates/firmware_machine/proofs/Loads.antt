-- A read by what is known of the registers is the machine's own, or waits for a register; so is a whole instruction. A refusal by the
-- machine has a number from 1 to 63, so that it cannot be mistaken for a wait.
use Prim.Native.Nat.{ℕ, ◌+◌, ◌-◌, ◌%◌, ◌<◌}
use mathlib.Core.Path.{◌≡◌, refl, ap, ◌∙◌}
use mathlib.Core.Bool.{Bool, true, false}
use mathlib.Core.List.{List}
use native.Mathlib.Omega.{arith}
use lib.Dec.{eqb, ltb}
use lib.ListN.{get_or}
use borrow.Author.Tests.{lt-ltb, le-ltb, ltb-true}
use Rattle.bits.specs.Byte.{pick}
use Rattle.registers.specs.Table.{is_readable}
use Rattle.chip.specs.declared.Chip.{Chip}
use Rattle.chip_reads.specs.declared.Reading.{Reading}
use Rattle.chip_reads.specs.Reads.{reading, reading_of}
use Rattle.chip_reads.proofs.Bytes.{reading_byte_lt}
use Rattle.cpu_memory.specs.declared.Loaded.{Loaded}
use Rattle.cpu_memory.specs.declared.Loaded.TheVariants.{Byte, Refused}
use Rattle.cpu_memory.specs.declared.Place.{Place}
use Rattle.cpu_memory.specs.declared.Place.TheVariants as at
use Rattle.cpu_memory.specs.Memory.{place, known, not_seen, memory_at, memory, is_stack_place, after_push}
use Rattle.cpu_memory.specs.Reads.{Result, gives, refuses, on_byte}
use Rattle.cpu_instruction.specs.declared.Effect.{Effect}
use Rattle.cpu_instruction.specs.Program.{Instruction, leaves, rejected, reads, pushes, perform}
use Rattle.firmware_machine.specs.Machine.{register_read, load_at, load}
use Rattle.firmware_machine.specs.Seen.{known_reading, Known, unseen, read, Knows}

-- ---- a load

pub data Sees (seen : List ℕ) (l m : Loaded) : Type 0 where
  same : l ≡ m → Sees seen l m
  waits : (r : ℕ) → r < 38 → get_or seen r 0 ≡ not_seen r → l ≡ Refused (64 + r) → Sees seen l m

known_reading_by : (x : Reading) (b : Bool) → x.byte < 256 → x.number < 6 → known (pick b x.byte (256 + x.number)) ≡ pick b (Byte x.byte) (Refused x.number)
unfolding known
known_reading_by x true h g = rw (lt-ltb x.byte 256 h)
known_reading_by x false h g =
    let z : (256 + x.number) % 256 ≡ x.number = omega arith in
    rw (le-ltb (256 + x.number) 256 (omega arith), z)

known_reading_lem : (x : Reading) → x.byte < 256 → x.number < 6 → known (known_reading x) ≡ register_read x
unfolding known_reading
known_reading_lem x h g = known_reading_by x (eqb x.number 0) h g

number_by : (reset readable : Bool) (n : ℕ) → (pick reset (pick readable (reading_of 0 n) (reading_of 5 0)) (reading_of 4 0)).number < 6
number_by false readable n = omega arith
number_by true false n = omega arith
number_by true true n = omega arith

pub reading_number_lt : (k : Chip) (r : ℕ) → (reading k r).number < 6
unfolding reading
reading_number_lt k r = number_by k.core.reset (is_readable r) _

known_not_seen : (r : ℕ) → r < 38 → known (not_seen r) ≡ Refused (64 + r)
unfolding known
known_not_seen r h =
    let z : (320 + r) % 256 ≡ 64 + r = omega arith in
    rw (le-ltb (320 + r) 256 (omega arith), z)

sees_register : (seen : List ℕ) (k : Chip) (r : ℕ) → r < 38 → Known k r (get_or seen r 0) → Sees seen (known (get_or seen r 0)) (register_read (reading k r))
sees_register seen k r h (unseen e) = waits r h e (ap known e ∙ known_not_seen r h)
sees_register seen k r h (read e) = same (ap known e ∙ known_reading_lem (reading k r) (reading_byte_lt k r) (reading_number_lt k r))

abbrev Registers : Place → Type 0
Registers (at.Register r) = r < 38
Registers (at.Ram i) = Unit {0}
Registers (at.Rom i) = Unit {0}
Registers at.Unmapped = Unit {0}

registers_by : (a : ℕ) (b c d e f : Bool) → ltb a 0x26 ≡ e
    → Registers (pick b (pick c (pick d (pick e (at.Register a) at.Unmapped) (at.Ram (a - 0x80))) (pick f (at.Ram (a - 0x180)) at.Unmapped)) (at.Rom (a - 0xA000)))
registers_by a true true true true f h = ltb-true a 0x26 h
registers_by a true true true false f h = tt
registers_by a true true false e f h = tt
registers_by a true false d e true h = tt
registers_by a true false d e false h = tt
registers_by a false c d e f h = tt

registers : (a : ℕ) → Registers (place a)
unfolding place
registers a = registers_by a (ltb a 0xA000) (ltb a 0x180) (ltb a 0x80) (ltb a 0x26) (ltb a 0x200) refl

sees_at : (seen ram rom : List ℕ) (k : Chip) → Knows seen k → (p : Place) → Registers p → Sees seen (memory_at seen ram rom p) (load_at ram k rom p)
sees_at seen ram rom k h (at.Register r) b = sees_register seen k r b (h r b)
sees_at seen ram rom k h (at.Ram i) b = same refl
sees_at seen ram rom k h (at.Rom i) b = same refl
sees_at seen ram rom k h at.Unmapped b = same refl

pub sees : (seen ram rom : List ℕ) (k : Chip) → Knows seen k → (a : ℕ) → Sees seen (memory seen ram rom a) (load ram k rom a)
unfolding memory load
sees seen ram rom k h a = sees_at seen ram rom k h (place a) (registers a)

sees_push_by : (seen : List ℕ) (t : Bool) (b : ℕ) (l m : Loaded) → Sees seen l m → Sees seen (pick t (Byte b) l) (pick t (Byte b) m)
sees_push_by seen true b l m h = same refl
sees_push_by seen false b l m h = h

sees_push : (seen : List ℕ) (s b : ℕ) (f g : ℕ → Loaded) → ((a : ℕ) → Sees seen (f a) (g a)) → (a : ℕ) → Sees seen (after_push s b f a) (after_push s b g a)
unfolding after_push
sees_push seen s b f g h a = sees_push_by seen (is_stack_place s (place a)) b (f a) (g a) (h a)

-- ---- an instruction

pub data Gets (seen : List ℕ) (x y : Result Effect) : Type 0 where
  same : x ≡ y → Gets seen x y
  waits : (r : ℕ) → r < 38 → get_or seen r 0 ≡ not_seen r → x ≡ refuses (64 + r) → Gets seen x y

gets_byte : (seen : List ℕ) (l m : Loaded) (f g : ℕ → Result Effect) → Sees seen l m → ((b : ℕ) → Gets seen (f b) (g b)) → Gets seen (on_byte l f) (on_byte m g)
gets_byte seen (Byte b) m f g (same e) h = rw (← e) (h b)
gets_byte seen (Refused n) m f g (same e) h = rw (← e) (same refl)
gets_byte seen l m f g (waits r b u e) h = rw e (waits r b u refl)

pub gets : (seen : List ℕ) (f g : ℕ → Loaded) → ((a : ℕ) → Sees seen (f a) (g a)) → (t : Instruction) → Gets seen (perform f t) (perform g t)
unfolding perform
gets seen f g h (leaves e) = same refl
gets seen f g h rejected = same refl
gets seen f g h (reads a k) =
    gets_byte seen (f a) (g a) (λ (b : ℕ). perform f (k b)) (λ (b : ℕ). perform g (k b)) (h a) (λ (b : ℕ). gets seen f g h (k b))
gets seen f g h (pushes s b t) = gets seen (after_push s b f) (after_push s b g) (sees_push seen s b f g h) t

-- ---- the numbers of refusals

abbrev pub Numbered : ℕ → Type 0
Numbered n = (eqb n 0 ≡ false) × (n < 64)

abbrev Low : Loaded → Type 0
Low (Byte b) = Unit {0}
Low (Refused n) = Numbered n

abbrev pub LowResult : Result Effect → Type 0
LowResult (gives e) = Unit {0}
LowResult (refuses n) = Numbered n

low_byte : (l : Loaded) (f : ℕ → Result Effect) → Low l → ((b : ℕ) → LowResult (f b)) → LowResult (on_byte l f)
low_byte (Byte b) f h g = g b
low_byte (Refused n) f h g = h

low_push_by : (t : Bool) (b : ℕ) (l : Loaded) → Low l → Low (pick t (Byte b) l)
low_push_by true b l h = tt
low_push_by false b l h = h

low_push : (s b : ℕ) (f : ℕ → Loaded) → ((a : ℕ) → Low (f a)) → (a : ℕ) → Low (after_push s b f a)
unfolding after_push
low_push s b f h a = low_push_by (is_stack_place s (place a)) b (f a) (h a)

low_perform : (f : ℕ → Loaded) → ((a : ℕ) → Low (f a)) → (t : Instruction) → LowResult (perform f t)
unfolding perform
low_perform f h (leaves e) = tt
low_perform f h rejected = (refl, omega arith)
low_perform f h (reads a k) = low_byte (f a) (λ (b : ℕ). perform f (k b)) (h a) (λ (b : ℕ). low_perform f h (k b))
low_perform f h (pushes s b t) = low_perform (after_push s b f) (low_push s b f h) t

low_register : (x : Reading) (b : Bool) → eqb x.number 0 ≡ b → x.number < 6 → Low (pick b (Byte x.byte) (Refused x.number))
low_register x true e h = tt
low_register x false e h = (e, omega arith)

low_at : (ram rom : List ℕ) (k : Chip) (p : Place) → Low (load_at ram k rom p)
low_at ram rom k (at.Register r) = low_register (reading k r) (eqb (reading k r).number 0) refl (reading_number_lt k r)
low_at ram rom k (at.Ram i) = tt
low_at ram rom k (at.Rom i) = tt
low_at ram rom k at.Unmapped = (refl, omega arith)

low_load : (ram rom : List ℕ) (k : Chip) (a : ℕ) → Low (load ram k rom a)
unfolding load
low_load ram rom k a = low_at ram rom k (place a)

-- what an instruction over the machine's own reads is refused with
pub low : (ram rom : List ℕ) (k : Chip) (t : Instruction) → LowResult (perform (load ram k rom) t)
low ram rom k t = low_perform (load ram k rom) (low_load ram rom k) t
