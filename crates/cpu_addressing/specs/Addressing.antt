-- The addressing modes of the 6502 (document 02, Wish 5): the bytes that each reads, and the effective address.
use Rattle.std.specs.Prelude.{ℕ, ◌+◌, ◌*◌, ◌/◌, ◌%◌, ◌≡◌, Bool, true, false, eqb, ltb}
use Rattle.bits.specs.Byte.{pick}
use Rattle.cpu_operations.specs.declared.Cpu.{Cpu}
use Rattle.cpu_opcodes.specs.declared.Mode.{Mode}
use Rattle.cpu_opcodes.specs.declared.Mode.TheVariants.{Implied, Accumulator, Immediate, ZeroPage, ZeroPageX, ZeroPageY, Absolute, AbsoluteX, AbsoluteY, AbsoluteIndirect, IndexedIndirect, IndirectIndexed, Relative, Undocumented}
use Rattle.cpu_memory.specs.Reads.{Reads, done, undocumented, read, Result, gives, refuses, result_number, then, word}
use Rattle.cpu_addressing.specs.declared.Effective.{Effective}
use Rattle.cpu_addressing.specs.declared.Word.{Word}
use Rattle.cpu_addressing.specs.declared.Word.TheVariants as w
use Rattle.cpu_addressing.specs.declared.Located.{Located}
use Rattle.cpu_addressing.specs.declared.Located.TheVariants as located

-- ---- what the code's answers stand for
abbrev pub word_result : Word → Result ℕ
word_result (w.Value a) = gives a
word_result (w.Refused n) = refuses n

abbrev pub located_result : Located → Result Effective
located_result (located.At t) = gives t
located_result (located.Refused n) = refuses n

-- the number of each case, 0 for an address: that of the first read that fails, or 20 for an opcode that is not documented
abbrev pub word_number : Word → ℕ
word_number (w.Value a) = 0
word_number (w.Refused n) = n

abbrev pub located_number : Located → ℕ
located_number (located.At t) = 0
located_number (located.Refused n) = n

-- number and values of a case, where the reads come to x
pub record WordCase (x : Result ℕ) (r : Word) : Type 0 where
  pub number : word_number r ≡ result_number x
  pub values : word_result r ≡ x

pub record LocatedCase (x : Result Effective) (r : Located) : Type 0 where
  pub number : located_number r ≡ result_number x
  pub values : located_result r ≡ x

-- ---- addresses

-- n bytes further; addresses wrap at 16 bits
abbrev pub ahead : ℕ → ℕ → ℕ
ahead a n = (a + n) % 65536

-- an effective address, and whether a page was crossed on the way to it
abbrev pub effective : ℕ → Bool → Effective
effective a x = record { address = a; crossed = x }

-- an address and an index: the sum, and whether it lies in another page
abbrev pub indexed : ℕ → ℕ → Effective
indexed a i = effective (ahead a i) (ltb 255 (a % 256 + i))

-- the target of a branch from the instruction behind it, at p, by a signed byte
unfoldable pub branch_target : ℕ → ℕ → ℕ
branch_target p b = pick (ltb b 128) (ahead p b) (ahead p (b + 65280))

-- and whether it lies in another page than that instruction
unfoldable pub branch_to : ℕ → ℕ → Effective
branch_to p b = effective (branch_target p b) (pick (eqb (branch_target p b / 256) (p / 256)) false true)

-- the address after a in the same page: from xxFF it goes to xx00
abbrev pub next_in_page : ℕ → ℕ
next_in_page a = a / 256 * 256 + (a % 256 + 1) % 256

-- ---- the modes: a is the address of the operand's first byte, b that of its second, i an index

-- a byte as an address in page zero, with an index that wraps there
abbrev pub zero_page : ℕ → ℕ → Reads Effective
zero_page a i = read a (λ (o : ℕ). done (effective ((o + i) % 256) false))

abbrev pub absolute : ℕ → ℕ → ℕ → Reads Effective
absolute a b i = then (word a b) (λ (v : ℕ). done (indexed v i))

-- an absolute address; JSR, for which own is true, fetches its operand itself
abbrev pub absolute_unless : Bool → ℕ → ℕ → Reads Effective
absolute_unless true a b = done (effective 0 false)
absolute_unless false a b = absolute a b 0

-- the word at p, whose high byte is in the same page, with an index
abbrev pub pointer : ℕ → ℕ → Reads Effective
pointer p i = then (word p (next_in_page p)) (λ (v : ℕ). done (indexed v i))

-- a pointer in page zero: one index before it is read, the other after
abbrev pub zero_page_pointer : ℕ → ℕ → ℕ → Reads Effective
zero_page_pointer a i j = read a (λ (o : ℕ). pointer ((o + i) % 256) j)

abbrev pub absolute_indirect : ℕ → ℕ → Reads Effective
absolute_indirect a b = then (word a b) (λ (v : ℕ). pointer v 0)

abbrev pub relative : ℕ → ℕ → Reads Effective
relative a p = read a (λ (o : ℕ). done (branch_to p o))

-- the effective address of the instruction at PC; an implied one, one on A, and one that fetches its own operand have none
unfoldable pub locate : Bool → Mode → Cpu → Reads Effective
locate own Implied c = done (effective 0 false)
locate own Accumulator c = done (effective 0 false)
locate own Immediate c = done (effective (ahead c.pc 1) false)
locate own ZeroPage c = zero_page (ahead c.pc 1) 0
locate own ZeroPageX c = zero_page (ahead c.pc 1) c.x
locate own ZeroPageY c = zero_page (ahead c.pc 1) c.y
locate own Absolute c = absolute_unless own (ahead c.pc 1) (ahead c.pc 2)
locate own AbsoluteX c = absolute (ahead c.pc 1) (ahead c.pc 2) c.x
locate own AbsoluteY c = absolute (ahead c.pc 1) (ahead c.pc 2) c.y
locate own AbsoluteIndirect c = absolute_indirect (ahead c.pc 1) (ahead c.pc 2)
locate own IndexedIndirect c = zero_page_pointer (ahead c.pc 1) c.x 0
locate own IndirectIndexed c = zero_page_pointer (ahead c.pc 1) 0 c.y
locate own Relative c = relative (ahead c.pc 1) (ahead c.pc 2)
locate own Undocumented c = undocumented
