-- The recall: whatever transfer to another device the firmware of the 212 monitors sees, at the times of its stored host, and however many
-- instructions are run after it: no instruction is refused, no interrupt is taken, and the firmware is still in its wait, with P00 low.
use Prim.Native.Nat.{ℕ, ◌+◌, ◌<◌}
use mathlib.Core.Path.{◌≡◌}
use mathlib.Core.Bool.{true, false}
use mathlib.Core.List.{List}
use Rattle.bus_ddc2b.specs.Ddc2b.{matches}
use Rattle.firmware_machine.specs.Run.{runs}
use Rattle.firmware_isolation_laws.specs.Trace.{trace, accesses_of}
use Rattle.recall_laws.specs.Wait.{power_up, is_uninterrupted, holds_at}
use Rattle.recall_image_laws.specs.Image.{rom, is_waiting}
use Rattle.recall_image_laws.specs.Lists.{transfer, is_foreign}
use Rattle.recall_image_laws.proofs.Recall as recall

-- every list that is foreign beside the stored one
pub stays_dark : (events : List ℕ) → is_foreign events ≡ true → (n : ℕ)
    → ((runs (2153 + n) 0 rom events (power_up rom)).number ≡ 0)
    × (is_uninterrupted (accesses_of (trace (2153 + n) 0 rom events (power_up rom))) ≡ true)
    × (holds_at is_waiting (runs (2153 + n) 0 rom events (power_up rom)).machine ≡ true)
stays_dark events h n = let k = recall.stays_dark events h n in (k.unrefused, k.uninterrupted, k.waiting)

-- every address but the chip's own, with any two bytes after it; II ADR is FFH in this wait
pub foreign : (address first second : ℕ) → address < 256 → matches 0xFF address ≡ false → is_foreign (transfer address first second) ≡ true
foreign = recall.transfer_foreign
