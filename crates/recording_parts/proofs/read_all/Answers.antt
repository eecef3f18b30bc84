-- `recording_parts::read_all` meets its contract. The loop's invariant is `Reading`.
-- Assumes nothing.
use mathlib.Core.Path.{◌≡◌, refl, ap, ◌∙◌}
use native.Mathlib.Omega.{arith}
use borrow.Author.Rules.{rules}
use borrow.Rule.Slice.PartMut.{put_mid}
use Prim.Native.Nat.{◌+◌, ◌-◌}
use lib.ListN.{length, take, drop, length-drop}
use lib.Seq.{drop-drop}
use Rattle.std.specs.Slice.Iter.{chunks_rest}
use Rattle.list_laws.proofs.Place.{put_tail, tail_all, chunk_first}
use Rattle.recording_parts.proofs.Reading.{More, more, refused, finished}
use Rattle.recording_parts.proofs.read_all.Goals as goal

pub loop-block-init : goal.loop-block-init
loop-block-init c =
    let all : chunks_rest c.into_iter-block-iterator.result ≡ c.args.bytes.now = ap chunks_rest c.into_iter-block-iterator.ensures.into_iter_gives ∙ c.chunks-block-items.ensures.rest in
    (search rules, tt, search rules, 0, all, record { same = refl; inside = omega arith; room = omega arith; words = refl; number = refl; after = refl; rest = refl })

grown : (c : goal.In-Ok)
    → More c.args.due c.args.bytes.now c.args.words.now
    (put_mid c.loop-block.count (length c.loop-block.words - c.loop-block.count) c.loop-block.words c.read_block.new.words)
    c.loop-block.next c.loop-block.count c.loop-block.invariant.3 c.in-Ok.n
grown c =
    let rest = c.loop-block.invariant.4 in
    let steps = c.in-Some.ensures.steps in
    let cut = chunk_first 512 _ _ _ steps.1.0 (rw c.loop-block.invariant.2 at steps.1.1) in
    more _ _ _ _ _ _ _ c.loop-block.invariant.5 (omega (arith, steps.1.2, ap length rest, length-drop c.loop-block.invariant.3 c.args.bytes.now)) _ _
    (cut.0 ∙ ap (take 512) rest) (tail_all c.loop-block.words c.loop-block.count)
    _ _ c.read_block.ensures.1 (put_tail c.loop-block.words c.read_block.new.words c.loop-block.count)
    (λ i. omega (arith, c.type_inv.bytes i)) _ c.in-Ok.ensures.0

pub overflow_add-count : goal.overflow_add-count
overflow_add-count c = omega (arith, (grown c).counted)

pub overflow_add-next : goal.overflow_add-next
overflow_add-next c = omega (arith, (grown c).small)

pub loop-block-preserved : goal.loop-block-preserved
loop-block-preserved c =
    let at = c.loop-block.invariant.3 in
    let rest = c.loop-block.invariant.4 in
    let size = c.loop-block.invariant.2 in
    let steps = c.in-Some.ensures.steps in
    let cut = chunk_first 512 _ _ _ steps.1.0 (rw size at steps.1.1) in
    (search rules, tt, steps.0 ∙ size, at + 512, cut.1 ∙ ap (drop 512) rest ∙ drop-drop 512 at c.args.bytes.now, (grown c).reading)

pub returns-in-Err : goal.returns-in-Err
returns-in-Err c =
    let rest = c.loop-block.invariant.4 in
    let steps = c.in-Some.ensures.steps in
    let cut = chunk_first 512 _ _ _ steps.1.0 (rw c.loop-block.invariant.2 at steps.1.1) in
    (refused _ _ _ _ _ _ _ c.loop-block.invariant.5 (omega (arith, steps.1.2, ap length rest, length-drop c.loop-block.invariant.3 c.args.bytes.now)) _ _
    (cut.0 ∙ ap (take 512) rest) (tail_all c.loop-block.words c.loop-block.count)
    _ _ c.read_block.ensures.1 (put_tail c.loop-block.words c.read_block.new.words c.loop-block.count) _ c.in-Err.ensures.0).1

pub returns : goal.returns
returns c =
    let none = c.in-None.ensures.steps.1.0 in
    let done = finished _ _ _ _ _ _ _ c.loop-block.invariant.5 (omega (arith, none, ap length c.loop-block.invariant.4, length-drop c.loop-block.invariant.3 c.args.bytes.now)) in
    (done.gives, done.leaves)
