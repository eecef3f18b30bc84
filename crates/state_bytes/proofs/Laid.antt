-- Lists laid out in an area of 128 bytes, and their end copied out of it.
-- Assumes nothing.
use mathlib.Core.Path.{◌≡◌, ap}
use mathlib.Core.List.{List, [], ◌++◌, append-nil}
use Prim.Native.Nat.{ℕ, ◌+◌, ◌-◌, ◌≤◌}
use native.Mathlib.Omega.{arith}
use lib.ListN.{length, take, drop, replicate, length-drop, drop_of_length-le}
use lib.Seq.{take_all}
use Rattle.chip.specs.declared.Core.{Core}
use Rattle.state_bytes.specs.Layout.{core_bytes, spare}

-- the core's bytes over the front of zeros, then 38 registers from place 90 on
pub laid_out : (core : Core) (o front registers : List ℕ) → front ≡ core_bytes core → length registers ≡ 38
    → o ≡ take (length front) front ++ drop (length front) (replicate 128 0)
    → take 90 o ++ (registers ++ drop (90 + length registers) o) ≡ core_bytes core ++ (spare ++ registers)
laid_out core o front registers f h e = rw (e, f, h) (ap (λ (r : List ℕ). core_bytes core ++ (spare ++ r)) (append-nil registers))

-- a copy of a list's end into an array of as many places
pub end_copied : (s z : List ℕ) (at : ℕ) → at ≤ length s → length z ≡ length s - at
    → take (length (take (length s - at) (drop at s))) (take (length s - at) (drop at s)) ++ drop (length (take (length s - at) (drop at s))) z ≡ drop at s
end_copied s z at h hz =
    let e : take (length s - at) (drop at s) ≡ drop at s = take_all (length s - at) (drop at s) (omega (arith, length-drop at s)) in
    let x : drop (length (drop at s)) z ≡ [] = drop_of_length-le z {i = length (drop at s)} (omega (arith, length-drop at s)) in
    rw (e, take_all (length (drop at s)) (drop at s) (omega arith), x) (append-nil (drop at s))
