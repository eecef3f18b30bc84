-- A program of reads: which address is read next follows from the bytes read before. It ends with a value, or at an opcode that
-- is not documented.
use Rattle.std.specs.Prelude.{ℕ, ◌+◌, ◌*◌}
use Rattle.cpu_memory.specs.declared.Loaded.{Loaded}
use Rattle.cpu_memory.specs.declared.Loaded.TheVariants.{Byte, Refused}

pub data Reads (A : Type 0) : Type 0 where
  done : A → Reads A
  undocumented : Reads A
  read : ℕ → (ℕ → Reads A) → Reads A

-- what a program comes to: a value, or the number of the first read that fails
pub data Result (A : Type 0) : Type 0 where
  gives : A → Result A
  refuses : ℕ → Result A

-- its number, 0 for a value
abbrev pub result_number : {A : Type 0} → Result A → ℕ
result_number (gives a) = 0
result_number (refuses n) = n

-- what follows on a byte read
abbrev pub on_byte : {A : Type 0} → Loaded → (ℕ → Result A) → Result A
on_byte (Byte b) k = k b
on_byte (Refused n) k = refuses n

-- a program over a memory; 20 for an opcode that is not documented
unfoldable pub run : {A : Type 0} → (ℕ → Loaded) → Reads A → Result A
run f (done a) = gives a
run f undocumented = refuses 20
run f (read a k) = on_byte (f a) (λ (b : ℕ). run f (k b))

-- one program after another
unfoldable pub then : {A B : Type 0} → Reads A → (A → Reads B) → Reads B
then (done a) g = g a
then undocumented g = undocumented
then (read a k) g = read a (λ (b : ℕ). then (k b) g)

abbrev pub on_result : {A B : Type 0} → Result A → (A → Result B) → Result B
on_result (gives a) g = g a
on_result (refuses n) g = refuses n

-- two bytes as an address, the low byte read first
abbrev pub high_byte : ℕ → ℕ → Reads ℕ
high_byte l b = read b (λ (h : ℕ). done (h * 256 + l))

abbrev pub word : ℕ → ℕ → Reads ℕ
word a b = read a (λ (l : ℕ). high_byte l b)
