-- The recall (docs/RECALL.md): images/recall.rom stays in its wait through every transfer to another device, for ever.
use Prim.Native.Nat.{ℕ, ◌+◌, ◌<◌}
use mathlib.Core.Path.{◌≡◌, refl, ap, sym, ◌∙◌, subst}
use mathlib.Core.Bool.{Bool, true, false, beq}
use mathlib.Core.List.{List, [], ◌∷◌, ◌++◌}
use lib.Dec.{T}
use Rattle.bits.specs.Finite.{all_below}
use Rattle.events.specs.Word as word
use Rattle.events.specs.Word.{decode}
use Rattle.bus_ddc2b.specs.Ddc2b.{matches}
use Rattle.isolation_laws.specs.Foreign.{none, since, byte_of, observer_of, Observer, observe, permitted, untouched}
use Rattle.firmware_machine.specs.Run.{runs}
use Rattle.firmware_isolation_laws.specs.Trace.{trace}
use Rattle.firmware_isolation_laws.specs.Words.{is_foreign_list}
use Rattle.recall_laws.specs.Host.{sda, read}
use Rattle.recall_laws.specs.Wait.{power_up, Waits, is_among}
use Rattle.recall_laws.proofs.Bytes.{Foreign, foreign_timed, observer, levels, one, byte, level_byte, refused}
use Rattle.recall_laws.proofs.Forever.{stays_on, answers_on}
use Rattle.recall_image_laws.specs.Image.{rom, waiting, is_waiting}
use Rattle.recall_image_laws.specs.Lists.{said, times, transfer, stored, is_foreign, heard}
use Rattle.recall_image_laws.proofs.Opened.{image}
use Rattle.recall_image_laws.proofs.Stored.{boots, begins, reads_no_data, stored_run, end_answers}
use Rattle.recall_image_laws.proofs.Wait.{InWait, turns, test_holds, reached}

-- ---- EVERY list that is foreign beside the stored one, and ANY number of instructions more

-- no instruction is refused and no interrupt taken in all of them, and at the end PC is in the wait, nothing is noted, P00 is low
pub stays_dark : (fs : List ℕ) → is_foreign fs ≡ true → (n : ℕ) → Waits is_waiting (runs (2153 + n) 0 rom fs (power_up rom)) (trace (2153 + n) 0 rom fs (power_up rom))
unfolding is_foreign waiting
stays_dark fs h n = stays_on is_waiting rom stored (power_up rom) 15 2138 boots begins stored_run InWait turns test_holds reached fs h n

-- PT0 reads FE before the transfer and after it, and no answer between shows a request
pub answers_dark : (fs : List ℕ) → is_foreign fs ≡ true → (n : ℕ) → (runs (2153 + n) 0 rom fs (power_up rom)).answers ≡ heard
unfolding is_foreign waiting
answers_dark fs h n = answers_on is_waiting rom stored (power_up rom) 15 2138 boots begins stored_run InWait turns test_holds reached fs h n reads_no_data ∙ end_answers

-- ---- every address but the chip's, and every two bytes after it

words_foreign : (own a c d e g h : ℕ) → matches own (byte_of (levels c)) ≡ false → Foreign (observer own 0 true none) (observer own 0 true none) (said a d g) (said c e h)
unfolding decode word.event word.no_event word.no_place word.bad_byte observe permitted untouched said
words_foreign own a c d e g h z =
    let x = true ∷ (levels a ++ []) in
    let y = true ∷ (levels c ++ []) in
    let x' = true ∷ (levels d ++ x) in
    let y' = true ∷ (levels e ++ y) in
    let q = byte own 0 false false a c [] [] _ _ refl refl refl refl refl refl refl z refl
    (byte own 0 true true d e x y _ _ refl refl refl refl refl refl refl refl refl
    (byte own 0 true true g h x' y' _ _ refl refl refl refl refl refl refl refl refl
    (one own 0 true true false false (since (true ∷ (levels g ++ x'))) (since (true ∷ (levels h ++ y'))) (sda true ∷ read 0 ∷ []) (sda true ∷ read 0 ∷ []) refl
    (record { left_words = refl; right_words = refl; same = refl; right = refl; sda = refl })))) in
    record { left_words = q.left_words; right_words = q.right_words; same = q.same; right = q.right; sda = q.sda }

waiting_observer : observer_of waiting.chip none ≡ observer waiting.chip.core.bus.iiadr 0 true none
unfolding image
waiting_observer = refl

-- II ADR in this wait
pub own_address : waiting.chip.core.bus.iiadr ≡ 0xFF
unfolding image
own_address = refl

pub transfer_foreign : (address first second : ℕ) → address < 256 → matches 0xFF address ≡ false → is_foreign (transfer address first second) ≡ true
unfolding is_foreign stored transfer said
transfer_foreign address first second l h =
    let o = observer 0xFF 0 true none in
    subst (λ (o : Observer). is_foreign_list (transfer 0x42 0x10 0x20) o (transfer address first second) ≡ true)
    (sym (waiting_observer ∙ ap (λ (own : ℕ). observer own 0 true none) own_address))
    (foreign_timed times o (said 0x42 0x10 0x20) (said address first second) refl refl (words_foreign 0xFF 0x42 address 0x10 first 0x20 second (ap (matches 0xFF) (level_byte address l) ∙ h)))

pub transfer_dark : (address first second : ℕ) → address < 256 → matches 0xFF address ≡ false
    → (n : ℕ) → Waits is_waiting (runs (2153 + n) 0 rom (transfer address first second) (power_up rom)) (trace (2153 + n) 0 rom (transfer address first second) (power_up rom))
transfer_dark address first second l h = stays_dark (transfer address first second) (transfer_foreign address first second l h)

-- ---- the monitor's own addresses are refused by the test, whatever follows them

-- of 256 addresses with direction they are A0H, A1H, FEH and FFH
pub own_four : T (all_below (λ (n : ℕ). beq (matches 0xFF n) (is_among (0xA0 ∷ 0xA1 ∷ 0xFE ∷ 0xFF ∷ []) n)) 256)
unfolding image
own_four = tt

pub own_refused : (first second : ℕ)
    → (is_foreign (transfer 0xA0 first second) ≡ false) × (is_foreign (transfer 0xA1 first second) ≡ false) × (is_foreign (transfer 0xFE first second) ≡ false) × (is_foreign (transfer 0xFF first second) ≡ false)
unfolding image
own_refused first second =
    let o = observer_of waiting.chip none in (
      refused stored (transfer 0xA0 first second) o refl,
      refused stored (transfer 0xA1 first second) o refl,
      refused stored (transfer 0xFE first second) o refl,
      refused stored (transfer 0xFF first second) o refl,
    )
