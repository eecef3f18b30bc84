-- What the theorem on two firmware runs presumes of what happens in them, each premise by its test.
use Rattle.std.specs.Prelude.{ℕ, Bool, List}
use Rattle.isolation_laws.specs.Foreign.{Trace, Observer, observer_of}
use Rattle.firmware_machine.specs.Machine.{Machine}
use Rattle.firmware_isolation_laws.specs.Trace.{Entry, trace}
use Rattle.firmware_isolation_laws.specs.Transfers.{alike_events, within, throughout, may_happen, may_be_listed, equal_throughout, leaves_data}

abbrev pub Tested : Type 0
Tested = Bool × Bool × Bool × Bool × Bool

-- in the order of `ForeignLists`: listed events agree; the first run may do what it does; so may the second, by its listed events; SDA is
-- touched equally while SCL is high; the CPU does not read II DAT
abbrev pub tests_of : ℕ → List ℕ → List ℕ → Observer → List Entry → List Entry → Tested
tests_of n es fs o s t = (alike_events (within n es) (within n fs), throughout may_happen o s, throughout may_be_listed o t, equal_throughout o o s t, throughout leaves_data o s)

-- of n instructions from one machine with two lists of events
unfoldable pub tests : ℕ → List ℕ → Machine → Trace → List ℕ → List ℕ → Tested
tests n rom m b es fs = tests_of n es fs (observer_of m.chip b) (trace n 0 rom es m) (trace n 0 rom fs m)
