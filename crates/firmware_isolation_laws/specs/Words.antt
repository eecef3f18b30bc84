-- The second of two runs by its words alone (document 02, Wish 5, with Wish 13): what is presumed of it is looked up along what happens in the
-- first, so that for a stored first run each premise is one computed Bool of the second list.
use Rattle.std.specs.Prelude.{ℕ, Bool, true, not, ◌&&◌, List, [], ◌∷◌, eqb}
use Rattle.registers.specs.Names.{IIADR}
use Rattle.events.specs.Word.{decode}
use Rattle.isolation_laws.specs.Foreign as words
use Rattle.isolation_laws.specs.Foreign.{Observer, permitted, reads_data}
use Rattle.cpu_instruction.specs.Program.{read_at, write_at}
use Rattle.firmware_machine.specs.Run.{word_of}
use Rattle.firmware_isolation_laws.specs.Trace.{Entry, given, made}
use Rattle.firmware_isolation_laws.specs.Transfers.{alike_events, within, throughout, may_happen, may_be_listed, equal_throughout, leaves_data}

-- of the first run: DDC2B stays selected, no address is the chip's, nothing resets it, and its CPU does not read II DAT
abbrev pub is_unaddressed : Observer → List Entry → Bool
is_unaddressed o s = throughout may_happen o s && throughout leaves_data o s

-- what happens in a run, its listed events exchanged for those of another list in their order; its accesses are kept
abbrev pub exchanged : List Entry → List ℕ → List Entry
exchanged [] fs = []
exchanged (given e x ∷ s) [] = []
exchanged (given e x ∷ s) (f ∷ fs) = given f x ∷ exchanged s fs
exchanged (made a ∷ s) fs = made a ∷ exchanged s fs

-- of the second list, beside a run of n instructions with the list es in which s happens: it is es but for levels of SDA, those put while SCL
-- is high being equal; no address in it is the chip's, and nothing in it resets the chip or leaves DDC2B
abbrev pub is_foreign_along : ℕ → List ℕ → Observer → List Entry → List ℕ → Bool
is_foreign_along n es o s fs = alike_events (within n es) (within n fs) && (throughout may_be_listed o (exchanged s fs) && equal_throughout o o s (exchanged s fs))

-- ---- where the first run's CPU does not write II ADR, the words of the two lists

abbrev pub keeps_address : List Entry → Bool
keeps_address [] = true
keeps_address (given e x ∷ s) = keeps_address s
keeps_address (made (read_at a l) ∷ s) = keeps_address s
keeps_address (made (write_at a b) ∷ s) = not (eqb a IIADR) && keeps_address s

-- the words of listed events
abbrev pub words_in : List ℕ → List ℕ
words_in [] = []
words_in (e ∷ es) = word_of e ∷ words_in es

-- the same events before the same instructions but for levels of SDA, and demand 3's own tests of the words. The watchdog is counted as if
-- the CPU did not clear it, so that this holds of no list with 64 clocks of it.
abbrev pub is_foreign_list : List ℕ → Observer → List ℕ → Bool
is_foreign_list es o fs = alike_events es fs && (words.throughout permitted o (words_in fs) && words.equal_throughout o o (words_in es) (words_in fs))

-- no listed event reads II DAT: whole answers are then compared
abbrev pub lists_no_data : List ℕ → Bool
lists_no_data [] = true
lists_no_data (e ∷ es) = not (reads_data (decode (word_of e))) && lists_no_data es
