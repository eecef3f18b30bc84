-- The order of events (Wish 10): by time, a clock before the changes of its time, and in the file's order.
use Rattle.std.specs.Prelude.{ℕ, ◌+◌, ◌*◌, ◌≤◌, Bool, true, false, List, [], ◌∷◌}
use Rattle.bits.specs.Byte.{pick}
use Rattle.vcd_steps.specs.Events.{Event}

-- grows with the time; at one time a clock comes before a change
abbrev pub rank : Event → ℕ
rank e = e.time * 2 + pick e.tick 0 1

-- none of the events comes before a rank or a place, and each comes after the one before it
pub data Ordered : ℕ → ℕ → List Event → Type 0 where
  none : {r p : ℕ} → Ordered r p []
  next : {r p : ℕ} {e : Event} {rest : List Event} → r ≤ rank e → p ≤ e.place → Ordered (rank e) e.place rest → Ordered r p (e ∷ rest)
