-- A dump that is written in pieces is the dump of all events: `in_pieces`.
-- Assumes nothing.
use mathlib.Core.Path.{◌≡◌, refl, sym, ap, ◌∙◌}
use mathlib.Core.List.{List, [], ◌∷◌, ◌++◌, append_assoc, append-nil}
use Prim.Native.Nat.{ℕ, zero, suc, ◌+◌, ◌≤◌}
use Rattle.wave_write.specs.declared.Watch.{Watch}
use Rattle.wave_write.specs.declared.Writer.{Writer}
use Rattle.wave_write.specs.Lines.{Line, Event, text, moved, event_lines, lines, after, fresh, begin_lines, end_lines, dump_lines}
use Rattle.wave_write.specs.Header.{header_text, dump}
use Rattle.wave_write.specs.Pieces.{joined, blocks_text, begin_text, end_text}
use Rattle.wave_write.proofs.Laws.{text_append}

lines_append : (xs ys : List Event) (w : Writer) → lines w (xs ++ ys) ≡ lines w xs ++ lines (after w xs) ys
unfolding lines after
lines_append [] ys w = refl
lines_append (x ∷ xs) ys w =
    let next = moved w x.word x.watch in
    rw (lines_append xs ys next) (sym (append_assoc (event_lines w x.word x.watch) (lines next xs) (lines (after next xs) ys)))

blocks_joined : (bs : List (List Event)) (w : Writer) → blocks_text w bs ≡ text (lines w (joined bs))
unfolding blocks_text joined lines text
blocks_joined [] w = refl
blocks_joined (b ∷ bs) w = rw (lines_append b (joined bs) w, text_append (lines w b), blocks_joined bs (after w b)) refl

whole_text : (b : List Line) (m e : List Line) → (header_text ++ (10 ∷ text b)) ++ (text m ++ text e) ≡ header_text ++ (10 ∷ text (b ++ (m ++ e)))
whole_text b m e = append_assoc header_text (10 ∷ text b) (text m ++ text e) ∙ rw (text_append b (m ++ e), text_append m e) refl

-- what begins, the blocks and what ends are the dump
pub in_pieces : (pins : ℕ) (watch : Watch) (bs : List (List Event)) → begin_text pins watch ++ (blocks_text (fresh watch) bs ++ end_text (after (fresh watch) (joined bs))) ≡ dump pins watch (joined bs)
unfolding dump dump_lines
in_pieces pins watch bs = rw (blocks_joined bs (fresh watch)) (whole_text (begin_lines pins watch) (lines (fresh watch) (joined bs)) (end_lines (after (fresh watch) (joined bs))))
