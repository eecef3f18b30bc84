-- A refused word behind a list names nothing: bytes left over, which count as one, do not either.
-- Assumes nothing.
use mathlib.Core.Path.{◌≡◌, refl, sym, ap, ◌∙◌}
use mathlib.Core.Bool.{true≢false}
use mathlib.Core.List.{List, [], ◌∷◌, ◌++◌}
use Prim.Native.Nat.{ℕ, ◌+◌}
use Rattle.bits.specs.Byte.{bit}
use Rattle.std.specs.Prelude.{Err}
use Rattle.events.specs.declared.Refusal.{Refusal}
use Rattle.events.specs.Word.{decode}
use Rattle.events.specs.Decoded.{Decoded}
use Rattle.chip.specs.declared.Chip.{Chip}
use Rattle.chip.specs.State.{mode_of}
use Rattle.chip_events.specs.Outcome.{kept_after, core_after, next}
use Rattle.step.specs.Step.{advance}
use Rattle.list_call.specs.Run.{advanced}
use Rattle.list_call.proofs.Runs.{advanced_append}
use Rattle.why_last_set.specs.declared.Last.{Last}
use Rattle.why_last_set.specs.declared.Last.TheVariants.{Never, At}
use Rattle.why_last_set.specs.LastSet.{Source, bit_of, noted}
use Rattle.why_reasons.specs.Explain.{later, last_set, reason_of}
use Rattle.why_laws.specs.Found.{Step}
use Rattle.why_laws.proofs.Lists.{noted_word}

refused_chip : (c : Chip) (w : ℕ) (r : Refusal) → decode w ≡ Err r → (advance c (decode w)).chip ≡ c
unfolding advance next kept_after core_after
refused_chip c w r e = rw e

refused_irqx : (c : Chip) (w : ℕ) (r : Refusal) → decode w ≡ Err r → (next c (decode w)).core.irqx ≡ c.core.irqx
unfolding next core_after
refused_irqx c w r e = rw e

none_changed : (s : Source) (c : Chip) (e : Decoded) (place : ℕ) (l : Last) → (next c e).core.irqx ≡ c.core.irqx → Step s c e place l → l ≡ Never
none_changed s c e place Never p x = refl
none_changed s c e place (At told sort) p x = absurd (true≢false (sym x.set ∙ ap (λ (n : ℕ). bit (bit_of s) n) p ∙ x.clear))

last_refused : (s : Source) (c : Chip) (ws : List ℕ) (w : ℕ) (r : Refusal) (base : ℕ) → decode w ≡ Err r → last_set s c (ws ++ (w ∷ [])) base ≡ last_set s c ws base
unfolding last_set
last_refused s c [] w r base e = none_changed s c (decode w) base _ (refused_irqx c w r e) (noted_word s c w base)
last_refused s c (v ∷ ws) w r base e =
    ap (λ (l : Last). later l (noted s base c.core.irqx (mode_of c.core) (advance c (decode v)).chip.core Never))
    (last_refused s (advance c (decode v)).chip ws w r (base + 1) e)

pub refused_names_nothing : (s : Source) (c : Chip) (ws : List ℕ) (w : ℕ) (r : Refusal) → decode w ≡ Err r → reason_of s c (ws ++ (w ∷ [])) ≡ reason_of s c ws
unfolding reason_of
refused_names_nothing s c ws w r e =
    rw (advanced_append c ws (w ∷ []), refused_chip (advanced c ws) w r e, last_refused s c ws w r 0 e)
