-- A line has 145 bytes at most, so that what is left of the text has room for the lines that are left.
use Rattle.std.proofs.Common.{◌≡◌, ◌*◌, ◌≤◌, length}
use Rattle.list_words.proofs.put_lines.Given as goal

abbrev pub invariant-loop-i : goal.invariant-loop-i
invariant-loop-i l = (l.at ≤ 145 * l.i) × (length l.text ≡ length l.initial.text)
