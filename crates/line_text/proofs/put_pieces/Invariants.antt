-- What the loop of `line_text::put_pieces` keeps.
use Rattle.line_text.proofs.Parts.{Standing}
use Rattle.line_text.proofs.put_pieces.Given as goal

abbrev pub invariant-loop-v : goal.invariant-loop-v
invariant-loop-v l = Standing l.initial.buf l.tokens l.v-index l.at l.buf
