-- `recording_writer::write_all` meets its contract. The loop's invariant is `Writing`.
-- Assumes nothing.
use mathlib.Core.Path.{◌≡◌, refl, sym, ap, ◌∙◌}
use mathlib.Core.List.{List, ◌++◌}
use Prim.Native.Nat.{ℕ, ◌+◌, ◌-◌, ◌<◌, ◌≤◌, min}
use native.Mathlib.Omega.{arith}
use borrow.Author.Rules.{rules}
use lib.ListN.{length, take, drop, length-drop}
use lib.Seq.{drop-drop}
use Rattle.std.specs.Slice.Iter.{chunks_rest}
use Rattle.list_laws.proofs.Place.{chunk_first}
use Rattle.recording_writer.proofs.Writing.{finished, fits, more, drop_min}
use Rattle.recording_writer.proofs.write_all.Goals as goal

pub loop-part-init : goal.loop-part-init
loop-part-init c =
    let all : chunks_rest c.into_iter-part-iterator.result ≡ c.args.words.now = ap chunks_rest c.into_iter-part-iterator.ensures.into_iter_gives ∙ c.chunks-part-items.ensures.rest in
    (search rules, tt, search rules, 0, all, record { inside = omega arith; same = refl; counted = omega arith; total = omega arith; written = refl; rest = refl })

-- within the loop there is a word left
left : (ws rest : List ℕ) (at : ℕ) → 0 < length rest → rest ≡ drop at ws → at < length ws
left ws rest at h e = omega (arith, ap length e, length-drop at ws)

pub overflow_add-stop : goal.overflow_add-stop
overflow_add-stop c =
    let i = c.loop-part.invariant in
    omega (arith, fits _ _ _ _ _ _ _ i.5 c.requires.1 (left c.args.words.now _ i.3 c.in-Some.ensures.steps.1.2 i.4))

pub overflow_cast-next : goal.overflow_cast-next
overflow_cast-next c =
    let i = c.loop-part.invariant in
    omega (arith, i.5.counted, c.requires.0, left c.args.words.now _ i.3 c.in-Some.ensures.steps.1.2 i.4)

pub slice_bounds-write_block-end : goal.slice_bounds-write_block-end
slice_bounds-write_block-end c =
    let i = c.loop-part.invariant in
    omega (arith, fits _ _ _ _ _ _ _ i.5 c.requires.1 (left c.args.words.now _ i.3 c.in-Some.ensures.steps.1.2 i.4), i.5.same)

pub overflow_add-next : goal.overflow_add-next
overflow_add-next c =
    let i = c.loop-part.invariant in
    omega (arith, i.5.counted, c.requires.0, left c.args.words.now _ i.3 c.in-Some.ensures.steps.1.2 i.4)

pub loop-part-preserved : goal.loop-part-preserved
loop-part-preserved c =
    let i = c.loop-part.invariant in
    let at = i.3 in
    let ws = c.args.words.now in
    let put = c.loop-part.put in
    let steps = c.in-Some.ensures.steps in
    let cut = chunk_first 126 _ _ _ steps.1.0 (rw i.2 at steps.1.1) in
    let end = min (at + 126) (length ws) in
    let same : put + 512 - put ≡ 512 = omega arith in
    let rest = cut.1 ∙ ap (drop 126) i.4 ∙ drop-drop 126 at ws ∙ sym (drop_min (at + 126) ws) in (
      search rules,
      tt,
      steps.0 ∙ i.2,
      end,
      rest,
      more _ ws c.args.area.now c.loop-part.area _ at put i.5 c.requires.1 (left ws _ at steps.1.2 i.4) end refl _ _ (cut.0 ∙ ap (take 126) i.4)
          (ap (λ (n : ℕ). take n (drop put c.loop-part.area)) same) _ _ c.write_block.ensures.1
          (ap (λ (n : ℕ). take put c.loop-part.area ++ (c.write_block.new.area ++ drop n (drop put c.loop-part.area))) same),
    )

pub returns : goal.returns
returns c =
    let i = c.loop-part.invariant in
    finished _ _ _ _ _ _ _ i.5 c.requires.1 (omega (arith, c.in-None.ensures.steps.1.0, ap length i.4, length-drop i.3 c.args.words.now))
