-- Demand 2: each answer and each next state is that of document 01. That the code gives what the definitions say is a contract of each
-- function; these are the statements about the definitions: a request, a flag, a write, a list.
use Prim.Native.Nat.{ℕ}
use mathlib.Core.Path.{◌≡◌}
use mathlib.Core.Bool.{true, false, not, ◌&&◌, ◌||◌}
use mathlib.Core.List.{List, ◌++◌}
use lib.Dec.{ltb}
use lib.ListN.{length, drop}
use Rattle.bits.specs.Byte.{bit}
use Rattle.std.specs.Prelude.{Ok}
use Rattle.events.specs.Word.{decode}
use Rattle.events.specs.declared.Event.TheVariants.{Write}
use Rattle.chip.specs.declared.Chip.{Chip}
use Rattle.chip.specs.State.{requests}
use Rattle.chip_well_formed.specs.WellFormed.{well_formed}
use Rattle.chip_events.specs.Outcome.{next}
use Rattle.list_call.specs.Run.{after, answers, run, run_answers}
use Rattle.chip_flag_laws.specs.Causes.{Source, place, flag, enabled, raises, clears}
use Rattle.chip_flag_laws.proofs.Requests as request
use Rattle.chip_flag_laws.proofs.Causes as cause
use Rattle.chip_write_laws.specs.Frame.{Part, alters, SameAt}
use Rattle.chip_write_laws.proofs.Frame as write
use Rattle.list_call_laws.proofs.Calls as calls

-- a request stands exactly when flag and enable are both set
pub requested : (s : Source) (c : Chip) → bit (place s) (requests c) ≡ (flag s c && enabled s c)
requested = request.requests

-- a flag after any word: raised by a cause that document 01 names, or standing and not cleared
pub flagged : (s : Source) (c : Chip) (word : ℕ)
    → flag s (next c (decode word)) ≡ (raises s c (decode word) || (flag s c && not (clears s c (decode word))))
flagged = cause.causes_of_word

-- a register write alters only what document 01 names for that register
pub altered : (c : Chip) (register byte : ℕ) (p : Part) → alters register p ≡ false → SameAt p (next c (Ok (Write register byte))) c
altered = write.frame

-- a list call that returns 0 is the step given word by word; places past the words are as they were
pub word_by_word : (c : Chip) (words places : List ℕ) → well_formed c ≡ true → ltb (length places) (length words) ≡ false
    → ((run c words places).chip ≡ after c words) × (run_answers c words places ≡ answers c words ++ drop (length words) places)
word_by_word c words places w s = let k = calls.word_by_word c words places w s in (k.chip, k.written)
