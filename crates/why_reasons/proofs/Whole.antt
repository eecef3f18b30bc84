-- The pass over the words gives what the definition over the whole list says.
-- Assumes nothing.
use mathlib.Core.Path.{◌≡◌, refl, sym, ap, ap₂, ◌∙◌}
use mathlib.Core.Bool.{Bool, true, false}
use mathlib.Core.List.{List, [], ◌∷◌}
use Prim.Native.Nat.{ℕ, ◌+◌, ◌<◌, ◌≤◌}
use native.Mathlib.Omega.{arith}
use borrow.Author.Tests.{lt-ltb}
use lib.ListN.{length}
use Rattle.bits.specs.Byte.{pick}
use Rattle.bus.specs.declared.Mode.{Mode}
use Rattle.bus.specs.declared.Comparison.{Comparison}
use Rattle.bus.specs.declared.Comparison.TheVariants.{None, Own}
use Rattle.bus.specs.Bus.{compared_in}
use Rattle.events.specs.Word.{decode}
use Rattle.chip.specs.declared.Core.{Core}
use Rattle.chip.specs.declared.Chip.{Chip}
use Rattle.chip.specs.State.{mode_of}
use Rattle.step.specs.Step.{advance}
use Rattle.list_call.specs.Run.{advanced}
use Rattle.why_last_set.specs.declared.Sort.{Sort}
use Rattle.why_last_set.specs.declared.Last.{Last}
use Rattle.why_last_set.specs.declared.Last.TheVariants.{Never, At}
use Rattle.why_last_set.specs.LastSet.{Source, last_at, address_at, noted, last_of, none_set, all_noted}
use Rattle.why_last_set.specs.LastSet.Source.{IntV, IntE, IntR, IntA, IntD, IntS}
use Rattle.why_reasons.specs.declared.Followed.{Followed}
use Rattle.why_reasons.specs.declared.Reasons.{Reasons}
use Rattle.why_reasons.specs.Explain.{later, last_set, reason_by, requesting, reason_of, next_place, start, followed_by, followed, reasons_of}

-- ---- noting a change over an earlier one

last_later : (up : Bool) (place : ℕ) (sort : Sort) (last : Last) → last_at up place sort last ≡ later (last_at up place sort Never) last
unfolding last_at
last_later true place sort last = refl
last_later false place sort last = refl

address_later : (up : Bool) (place : ℕ) (outcome : Comparison) (last : Last) → address_at up place outcome last ≡ later (address_at up place outcome Never) last
unfolding address_at
address_later up place None last = refl
address_later up place (Own matched) last = last_later up place _ last

noted_later : (s : Source) (place irqx : ℕ) (mode : Mode) (after : Core) (last : Last) → noted s place irqx mode after last ≡ later (noted s place irqx mode after Never) last
unfolding noted
noted_later IntV place irqx mode after last = last_later _ place _ last
noted_later IntE place irqx mode after last = last_later _ place _ last
noted_later IntR place irqx mode after last = last_later _ place _ last
noted_later IntA place irqx mode after last = address_later _ place _ last
noted_later IntD place irqx mode after last = last_later _ place _ last
noted_later IntS place irqx mode after last = last_later _ place _ last

later_assoc : (a b c : Last) → later a (later b c) ≡ later (later a b) c
later_assoc Never b c = refl
later_assoc (At place sort) b c = refl

later_never : (a : Last) → later a Never ≡ a
later_never Never = refl
later_never (At place sort) = refl

-- ---- the pass

pub followed_chip : (f : Followed) (ws : List ℕ) → (followed f ws).chip ≡ advanced f.chip ws
unfolding followed_by
followed_chip f [] = refl
followed_chip f (w ∷ ws) = followed_chip (followed_by f w) ws

noted_of : (s : Source) (f : Followed) (w : ℕ) →
    last_of s (followed_by f w).last
    ≡ noted s f.place f.chip.core.irqx (mode_of f.chip.core) (advance f.chip (decode w)).chip.core (last_of s f.last)
unfolding followed_by all_noted
noted_of IntV f w = refl
noted_of IntE f w = refl
noted_of IntR f w = refl
noted_of IntA f w = refl
noted_of IntD f w = refl
noted_of IntS f w = refl

next_of : (place : ℕ) → place < 18446744073709551615 → next_place place ≡ place + 1
unfolding next_place
next_of place h = rw (lt-ltb place 18446744073709551615 h)

place_of : (f : Followed) (w : ℕ) → f.place < 18446744073709551615 → (followed_by f w).place ≡ f.place + 1
unfolding followed_by
place_of f w k = next_of f.place k

chip_of_lem : (f : Followed) (w : ℕ) → (followed_by f w).chip ≡ (advance f.chip (decode w)).chip
unfolding followed_by
chip_of_lem f w = refl

-- as long as places can be told, the last change that the pass has is that of the list or, with none there, the one it had
pub followed_last : (s : Source) (f : Followed) (ws : List ℕ) → f.place + length ws ≤ 18446744073709551615
    → last_of s (followed f ws).last ≡ later (last_set s f.chip ws f.place) (last_of s f.last)
unfolding last_set
followed_last s f [] h = refl
followed_last s f (w ∷ ws) h =
    let next : (followed_by f w).place ≡ f.place + 1 = place_of f w (omega arith) in
    followed_last s (followed_by f w) ws (omega (arith, next))
    ∙ rw (noted_of s f w, noted_later s f.place f.chip.core.irqx (mode_of f.chip.core) (advance f.chip (decode w)).chip.core (last_of s f.last), next, chip_of_lem f w)
    (later_assoc (last_set s (advance f.chip (decode w)).chip ws (f.place + 1)) (noted s f.place f.chip.core.irqx (mode_of f.chip.core) (advance f.chip (decode w)).chip.core Never) (last_of s f.last))

never_of : (s : Source) → last_of s none_set ≡ Never
unfolding none_set
never_of IntV = refl
never_of IntE = refl
never_of IntR = refl
never_of IntA = refl
never_of IntD = refl
never_of IntS = refl

pub whole_last : (s : Source) (c : Chip) (ws : List ℕ) → length ws ≤ 18446744073709551615 → last_of s (followed (start c) ws).last ≡ last_set s c ws 0
unfolding start
whole_last s c ws h = followed_last s (start c) ws (omega arith) ∙ rw (never_of s) (later_never (last_set s c ws 0))

-- ---- the reasons

pub whole_reason : (s : Source) (c : Chip) (ws : List ℕ) → length ws ≤ 18446744073709551615
    → reason_by (requesting s (followed (start c) ws).chip) (last_of s (followed (start c) ws).last) ≡ reason_of s c ws
unfolding reason_of start
whole_reason s c ws h = rw (followed_chip (start c) ws, whole_last s c ws h)

pub whole : (c : Chip) (ws : List ℕ) → length ws ≤ 18446744073709551615
    → reasons_of (followed (start c) ws)
    ≡ record {
      v = reason_of IntV c ws;
      e = reason_of IntE c ws;
      r = reason_of IntR c ws;
      a = reason_of IntA c ws;
      d = reason_of IntD c ws;
      s = reason_of IntS c ws;
    }
unfolding reasons_of
whole c ws h =
    rw (
      ← (whole_reason IntV c ws h),
      ← (whole_reason IntE c ws h),
      ← (whole_reason IntR c ws h),
      ← (whole_reason IntA c ws h),
      ← (whole_reason IntD c ws h),
      ← (whole_reason IntS c ws h),
    )
