-- `recording_replay::put_text` meets its contract.
-- Assumes nothing.
use mathlib.Core.Path.{ap, ◌∙◌}
use Prim.Native.Nat.{◌*◌}
use native.Mathlib.Omega.{arith}
use lib.ListN.{length, length-drop}
use Rattle.list_laws.proofs.Place.{tail_all}
use Rattle.hex_digits.proofs.Line.{line_put}
use Rattle.recording_replay.proofs.Replaying.{one_last, room_lines, lines_kept, text_plain, text_ended}
use Rattle.recording_replay.proofs.put_text.Goals as goal

pub returns-then-number-eq0 : goal.returns-then-number-eq0
returns-then-number-eq0 c =
    let room = room_lines c.args.answers.now c.args.number in
    text_plain _ _ _ _ (c.put_lines.ensures.fits (omega (arith, c.requires, room))) c.if-number-eq0.true

pub overflow_mul-answers : goal.overflow_mul-answers
overflow_mul-answers c = omega (arith, c.requires, room_lines c.args.answers.now c.args.number)

pub slice_bounds-put_lines-count : goal.slice_bounds-put_lines-count
slice_bounds-put_lines-count c =
    let room = room_lines c.args.answers.now c.args.number in
    omega (arith, c.requires, room, lines_kept c.args.answers.now _ _ c.args.number (c.put_lines.ensures.fits (omega (arith, c.requires, room))) (omega (arith, c.requires, room)))

pub slice_bounds-put_lines-start : goal.slice_bounds-put_lines-start
slice_bounds-put_lines-start c =
    let room = room_lines c.args.answers.now c.args.number in
    omega (arith, c.requires, room, lines_kept c.args.answers.now _ _ c.args.number (c.put_lines.ensures.fits (omega (arith, c.requires, room))) (omega (arith, c.requires, room)))

pub returns : goal.returns
returns c =
    let now = c.put_lines.new.text in
    let at = 9 * length c.args.answers.now in
    let room = room_lines c.args.answers.now c.args.number in
    let lines = c.put_lines.ensures.fits (omega (arith, c.requires, room)) in
    let kept = lines_kept c.args.answers.now _ _ c.args.number lines (omega (arith, c.requires, room)) in
    let last = ap length (one_last c.args.number c.if-number-eq0.false) in
    let line = c.put_lines-2.ensures.fits (omega (arith, c.requires, room, kept, last, ap length (tail_all now at), length-drop at now)) in
    text_ended _ _ _ _ lines c.if-number-eq0.false (omega (arith, c.requires, room, kept, last)) _ c.answer.ensures _ (line_put now _ at _ line)
