-- What the list call has done after i words, and one word more; and a run in parts.
-- Assumes nothing.
use mathlib.Core.Path.{◌≡◌, refl, sym, ap, ap₂, ◌∙◌}
use mathlib.Core.List.{List, [], ◌∷◌, ◌++◌, append_assoc, append-nil}
use Prim.Native.Nat.{ℕ, suc, ◌+◌, ◌<◌, ◌≤◌}
use native.Mathlib.Omega.{arith}
use native.Mathlib.Numerals.{add-one}
use lib.ListN.{length, take, drop, get_or, set, length-set, take-append-drop}
use lib.Seq.{drop-cons, take-suc-set, drop-set-lt, drop-length, drop-drop}
use Rattle.events.specs.Word.{decode}
use Rattle.chip.specs.declared.Chip.{Chip}
use Rattle.chip.specs.State.{chip_of}
use Rattle.step.specs.declared.CoreStepped.{CoreStepped}
use Rattle.step.specs.Step.{step, advance, core_of}
use Rattle.list_call.specs.Run.{after, answers, advanced, advanced_answers}

-- of the words ws from the chip c, i are done: the chip is s, the answer places hold now and held old
pub record Done (ws old : List ℕ) (c : Chip) (now : List ℕ) (s : Chip) (i : ℕ) : Type 0 where
  pub within : i ≤ length ws
  pub same : length now ≡ length old
  pub state : advanced s (drop i ws) ≡ advanced c ws
  pub written : take i now ++ advanced_answers s (drop i ws) ≡ advanced_answers c ws
  pub rest : drop i now ≡ drop i old

module _ (ws old : List ℕ) (c : Chip) (now : List ℕ) (s : Chip) (i : ℕ) (d : Done ws old c now s i) where
  pub more : i < length ws → length ws ≤ length old → (r : CoreStepped) → r ≡ core_of (advance s (decode (get_or ws i 0)))
      → (registers : List ℕ) → registers ≡ (advance s (decode (get_or ws i 0))).chip.registers
      → Done ws old c (set now i r.answer) (chip_of registers r.core) (i + 1)
  more h k r q registers l =
      let hn : i < length now = omega (arith, d.same) in
      record {
        within = omega arith;
        same = simp length-set d.same;
        state = rw (add-one, q, l) (rw (drop-cons ws i 0 h) at d.state);
        written = rw (add-one, take-suc-set now i r.answer hn, append_assoc, q, l) (rw (drop-cons ws i 0 h) at d.written);
        rest = drop-set-lt (i + 1) now i r.answer (omega arith) ∙ sym (drop-drop 1 i now) ∙ ap (drop 1) d.rest ∙ drop-drop 1 i old;
      }

  pub all : length ws ≤ i → length ws ≤ length old → (s ≡ advanced c ws) × (now ≡ advanced_answers c ws ++ drop (length ws) old)
  all h k =
      let e : i ≡ length ws = omega (arith, d.within) in
      let x : take (length ws) now ++ [] ≡ advanced_answers c ws = rw (e, drop-length) at d.written in (
        rw (e, drop-length) at d.state,
        sym (take-append-drop (length ws) now) ∙ ap₂ (λ (l r : List ℕ). l ++ r) (sym (append-nil (take (length ws) now)) ∙ x) (rw e at d.rest),
      )

-- a run of two lists joined is the run of the second from the end of the first
pub after_append : (c : Chip) (ws vs : List ℕ) → after c (ws ++ vs) ≡ after (after c ws) vs
after_append c [] vs = refl
after_append c (w ∷ ws) vs = after_append (step c w).chip ws vs

pub answers_append : (c : Chip) (ws vs : List ℕ) → answers c (ws ++ vs) ≡ answers c ws ++ answers (after c ws) vs
answers_append c [] vs = refl
answers_append c (w ∷ ws) vs = ap (λ (l : List ℕ). (step c w).answer ∷ l) (answers_append (step c w).chip ws vs)

pub advanced_append : (c : Chip) (ws vs : List ℕ) → advanced c (ws ++ vs) ≡ advanced (advanced c ws) vs
advanced_append c [] vs = refl
advanced_append c (w ∷ ws) vs = advanced_append (advance c (decode w)).chip ws vs

pub advanced_answers_append : (c : Chip) (ws vs : List ℕ) → advanced_answers c (ws ++ vs) ≡ advanced_answers c ws ++ advanced_answers (advanced c ws) vs
advanced_answers_append c [] vs = refl
advanced_answers_append c (w ∷ ws) vs = ap (λ (l : List ℕ). (advance c (decode w)).answer ∷ l) (advanced_answers_append (advance c (decode w)).chip ws vs)

-- an answer for each word
pub length_answers : (c : Chip) (ws : List ℕ) → length (answers c ws) ≡ length ws
length_answers c [] = refl
length_answers c (w ∷ ws) = ap suc (length_answers (step c w).chip ws)

pub length_advanced_answers : (c : Chip) (ws : List ℕ) → length (advanced_answers c ws) ≡ length ws
length_advanced_answers c [] = refl
length_advanced_answers c (w ∷ ws) = ap suc (length_advanced_answers (advance c (decode w)).chip ws)
