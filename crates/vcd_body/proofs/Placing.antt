-- The words of a token's events.
-- Assumes nothing.
use mathlib.Core.Bool.{Bool, true, false}
use mathlib.Core.Path.{◌≡◌, refl, ap, ◌∙◌}
use mathlib.Core.List.{List, [], ◌∷◌}
use Prim.Native.Nat.{ℕ, zero, suc, ◌+◌, ◌-◌, ◌/◌, ◌%◌}
use native.Mathlib.Omega.{arith}
use lib.ListN.{drop, replicate}
use lib.Dec.{eqb}
use lib.Seq.{drop-nil}
use Rattle.bits.specs.Byte.{pick}
use Rattle.vcd_output.specs.declared.Put.{Put}
use Rattle.vcd_output.specs.Room.{put, wrote, clock_word, pin_word, unpacked, pin_words}
use Rattle.vcd_steps.specs.declared.State.{State}
use Rattle.vcd_steps.specs.Events.{clock_events, pin_events, words}
use Rattle.vcd_body.specs.declared.Turn.{Turn}
use Rattle.vcd_body.specs.declared.Turn.TheVariants.{On}
use Rattle.vcd_body.specs.Pieces.{turned, turn_by}

clock_words : (p k n : ℕ) → words (clock_events p k n) ≡ replicate n clock_word
unfolding words clock_events
clock_words p k zero = refl
clock_words p k (suc n) = ap (λ (l : List ℕ). clock_word ∷ l) (clock_words p (k + 1) n)

drop_replicate : (d n a : ℕ) → drop d (replicate n a) ≡ replicate (n - d) a
drop_replicate zero n a = let z : n - 0 ≡ n = omega arith in rw z refl
drop_replicate (suc d) zero a = let z : 0 - suc d ≡ 0 = omega arith in rw z refl
drop_replicate (suc d) (suc n) a = let z : suc n - suc d ≡ n - d = omega arith in rw z (drop_replicate d n a)

pub clocks_left : (p k n done : ℕ) → drop done (words (clock_events p k n)) ≡ replicate (n - done) clock_word
clocks_left p k n done = ap (drop done) (clock_words p k n) ∙ drop_replicate done n clock_word

pin_words_step : (p t : ℕ) (high : Bool) (n list : ℕ) (q : Bool) → words (pin_events p t high (unpacked n (list / 256))) ≡ pin_words n (list / 256) high
    → words (pin_events p t high (pick q [] (list % 256 ∷ unpacked n (list / 256)))) ≡ pick q [] (pin_word high (list % 256) ∷ pin_words n (list / 256) high)
unfolding words pin_events
pin_words_step p t high n list true e = refl
pin_words_step p t high n list false e = ap (λ (l : List ℕ). pin_word high (list % 256) ∷ l) e

pub pin_words_lem : (p t : ℕ) (high : Bool) (n list : ℕ) → words (pin_events p t high (unpacked n list)) ≡ pin_words n list high
unfolding words pin_events unpacked pin_words
pin_words_lem p t high zero list = refl
pin_words_lem p t high (suc n) list = pin_words_step p t high n list (eqb (list % 256) 0) (pin_words_lem p t high n (list / 256))

-- a token without events writes nothing
pub silent_turn : (s : State) (done count : ℕ) (room : List ℕ)
    → turned room (On s count) ≡ turned (put (drop done (words [])) room count done).room (turn_by s (put (drop done (words [])) room count done).told)
unfolding words put turn_by
silent_turn s done count room = rw (drop-nil {A = ℕ} done) refl

-- the clocks of a time, written from those that are done on
pub clocks_turn : (s : State) (p k n done count : ℕ) (room after : List ℕ) (told : Put) (turn : Turn)
    → wrote after told ≡ put (replicate (n - done) clock_word) room count done → turn ≡ turn_by s told
    → turned after turn ≡ turned (put (drop done (words (clock_events p k n))) room count done).room (turn_by s (put (drop done (words (clock_events p k n))) room count done).told)
clocks_turn s p k n done count room after told turn e t = rw (clocks_left, ← e) (simp t)
