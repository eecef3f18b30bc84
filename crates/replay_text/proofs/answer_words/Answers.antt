-- `replay_text::answer_words` meets its contract. The loop's invariant is `Progress`.
-- Assumes nothing.
use mathlib.Core.Path.{◌≡◌, ap, ◌∙◌}
use native.Mathlib.Omega.{arith}
use borrow.Author.Rules.{rules}
use mathlib.Core.List.{List, ◌++◌}
use lib.ListN.{length, take, drop}
use Prim.Native.Nat.{ℕ, ◌*◌, ◌/◌}
use Rattle.list_call.specs.Run.{advanced_answers}
use Rattle.recording_blocks.specs.Bytes.{words_of}
use Rattle.replay_text.specs.Text.{hex_lines}
use Rattle.std.specs.Slice.Iter.{chunks_rest}
use Rattle.std.proofs.lemmas.List.{nil_from_length}
use Rattle.list_laws.proofs.Place.{put_tail, tail_all}
use Rattle.replay_text.proofs.Progress.{begun, fits, next, ended}
use Rattle.replay_text.proofs.answer_words.Goals as goal

pub loop-part-init : goal.loop-part-init
loop-part-init c =
    let all : chunks_rest c.into_iter-part-iterator.result ≡ c.args.bytes.now = ap chunks_rest c.into_iter-part-iterator.ensures.into_iter_gives ∙ c.chunks-part-items.ensures.rest in
    (search rules, tt, search rules, rw all (begun _ _ _ c.requires))

pub answer_some-c-requires : goal.answer_some-c-requires
answer_some-c-requires c =
    let now = c.loop-part.text in
    let at = c.loop-part.at in
    let steps = c.in-Some.ensures.steps in
    let cut = rw c.loop-part.invariant.2 at steps.1.1 in
    (omega (arith, cut), omega (arith, fits _ _ _ c.requires _ _ _ _ c.loop-part.invariant.3 _ _ steps.1.0 cut, ap length (tail_all now at)))

pub loop-part-preserved : goal.loop-part-preserved
loop-part-preserved c =
    let d = c.loop-part.invariant.3 in
    let size = c.loop-part.invariant.2 in
    let steps = c.in-Some.ensures.steps in
    let cut = rw size at steps.1.1 in
    let now = c.loop-part.text in
    let at = c.loop-part.at in
    let lines = hex_lines (advanced_answers c.loop-part.c (words_of c.in-Some.part.now)) in
    let put = put_tail now _ at
    ∙ ap (λ (l : List ℕ). take at now ++ l)
    (c.answer_some-c.ensures.1 ∙ ap (λ (l : List ℕ). lines ++ drop (9 * (length c.in-Some.part.now / 4)) l) (tail_all now at)) in
    (search rules, tt, steps.0 ∙ size, next _ _ _ c.requires _ _ _ _ d _ _ steps.1.0 cut _ c.answer_some-c.ensures.0 _ put)

pub returns : goal.returns
returns c = ended _ _ _ c.requires _ _ _ _ c.loop-part.invariant.3 (nil_from_length _ c.in-None.ensures.steps.1.0)
