-- What the writer of blocks has done after some blocks, and one block more.
-- Assumes nothing.
use mathlib.Core.Path.{◌≡◌, refl, sym, ap, ap₂, ◌∙◌}
use mathlib.Core.Bool.{false}
use mathlib.Core.List.{List, [], ◌∷◌, ◌++◌, append-nil, append_assoc}
use Prim.Native.Nat.{ℕ, zero, suc, ◌+◌, ◌*◌, ◌-◌, ◌/◌, ◌<◌, ◌≤◌, min}
use native.Mathlib.Omega.{arith}
use native.Mathlib.Nat.{zero-min, suc-min-suc}
use borrow.Author.Tests.{le-ltb, lt-ltb, eq-eqb}
use lib.Dec.{ltb}
use lib.ListN.{length, take, drop, length-append, length-take, length-drop, take-append-drop}
use lib.Seq.{take_at, drop_at, drop-drop, drop-nil, length-take-le}
use Rattle.recording_blocks.specs.Block.{block_of, area_left}
use Rattle.recording_blocks.proofs.Parts.{length_block}
use Rattle.recording_parts.specs.Recording.{joined, numbered}
use Rattle.recording_parts.proofs.Pieces.{parts_cons, parts_nil}
use Rattle.recording_writer.specs.Written.{block_count, blocks_bytes, blocks_written, blocks_put}
use Rattle.std.specs.Prelude.{Ok, Err}
use Rattle.recording_blocks.specs.declared.WriteFault.TheVariants.{Numbers, Area}

-- what is left behind a part that ends at the end of the list
pub drop_min : (n : ℕ) (xs : List ℕ) → drop (min n (length xs)) xs ≡ drop n xs
drop_min zero xs = rw (zero-min (length xs))
drop_min (suc n) [] = drop-nil (min (suc n) 0)
drop_min (suc n) (x ∷ xs) = rw (suc-min-suc n (length xs)) (drop_min n xs)

-- the first block, and those behind it
first_block : (number : ℕ) (ws : List ℕ) → 0 < length ws → blocks_bytes number ws ≡ block_of number (take 126 ws) ++ blocks_bytes (number + 1) (drop 126 ws)
unfolding blocks_bytes numbered joined
first_block number ws h = rw (parts_cons ws h)

no_block : (number : ℕ) (ws : List ℕ) → length ws ≡ 0 → blocks_bytes number ws ≡ []
unfolding blocks_bytes numbered joined
no_block number ws h = rw (parts_nil ws h)

-- the blocks of the words up to the one with index at are written: put bytes of the area, which held old; next is the next number
pub record Writing (first : ℕ) (ws old now : List ℕ) (next at put : ℕ) : Type 0 where
  pub inside : at ≤ length ws
  pub same : length now ≡ length old
  pub counted : next + (length ws - at + 125) / 126 ≡ first + block_count ws
  pub total : put + 512 * ((length ws - at + 125) / 126) ≡ 512 * block_count ws
  pub written : take put now ++ blocks_bytes next (drop at ws) ≡ blocks_bytes first ws
  pub rest : drop put now ≡ drop put old

module _ (first : ℕ) (ws old now : List ℕ) (next at put : ℕ) (d : Writing first ws old now next at put) (room : 512 * block_count ws ≤ length old) where
  pub finished : length ws ≤ at → now ≡ blocks_bytes first ws ++ drop (512 * block_count ws) old
  finished h =
      let end : put ≡ 512 * block_count ws = omega (arith, d.total, d.inside) in
      let all : take put now ≡ blocks_bytes first ws =
      sym (append-nil (take put now)) ∙ ap (λ (t : List ℕ). take put now ++ t) (sym (no_block next (drop at ws) (length-drop at ws ∙ omega arith))) ∙ d.written in
      sym (take-append-drop put now) ∙ ap₂ (λ (x y : List ℕ). x ++ y) all (d.rest ∙ ap (λ (n : ℕ). drop n old) end)

  module _ (h : at < length ws) where
    pub fits : put + 512 ≤ length old
    fits = omega (arith, d.total)

    pub more : (end : ℕ) → end ≡ min (at + 126) (length ws) → (part place : List ℕ) → part ≡ take 126 (drop at ws) → place ≡ take 512 (drop put now)
        → (left new : List ℕ) → left ≡ area_left next part place → new ≡ take put now ++ (left ++ drop 512 (drop put now))
        → Writing first ws old new (next + 1) end (put + 512)
    unfolding area_left
    more end e part place p q left new u v =
        let words = p in
        let short : length part ≤ 126 = omega (arith, ap length words, length-take 126 (drop at ws)) in
        let size : length place ≡ 512 = ap length q ∙ length-take-le 512 (drop put now) (omega (arith, length-drop put now, d.same, fits)) in
        let block = block_of next (take 126 (drop at ws)) in
        let made : left ≡ block = u ∙ rw (le-ltb 126 (length part) short, eq-eqb (length place) 512 size, words) in
        let whole : length block ≡ 512 = length_block next (take 126 (drop at ws)) (omega (arith, length-take 126 (drop at ws))) in
        let front : length (take put now ++ block) ≡ put + 512 =
        length-append (take put now) block ∙ omega (arith, whole, length-take-le put now (omega (arith, d.same, fits))) in
        let z : new ≡ (take put now ++ block) ++ drop 512 (drop put now) =
        v ∙ ap (λ (l : List ℕ). take put now ++ (l ++ drop 512 (drop put now))) made ∙ sym (append_assoc (take put now) block (drop 512 (drop put now))) in
        let onward : drop 126 (drop at ws) ≡ drop end ws = drop-drop 126 at ws ∙ sym (drop_min (at + 126) ws) ∙ ap (λ (n : ℕ). drop n ws) (sym e) in
        record {
          inside = omega (arith, e);
          same = ap length z ∙ length-append (take put now ++ block) (drop 512 (drop put now))
              ∙ omega (arith, front, length-drop 512 (drop put now), length-drop put now, d.same, fits);
          counted = omega (arith, e, d.counted);
          total = omega (arith, e, d.total);
          written =
              ap (λ (l : List ℕ). l ++ blocks_bytes (next + 1) (drop end ws)) (ap (take (put + 512)) z ∙ take_at (take put now ++ block) (drop 512 (drop put now)) (put + 512) front)
              ∙ append_assoc (take put now) block (blocks_bytes (next + 1) (drop end ws))
              ∙ ap (λ (xs : List ℕ). take put now ++ (block ++ blocks_bytes (next + 1) xs)) (sym onward)
              ∙ ap (λ (l : List ℕ). take put now ++ l) (sym (first_block next (drop at ws) (omega (arith, length-drop at ws))))
              ∙ d.written;
          rest = ap (drop (put + 512)) z ∙ drop_at (take put now ++ block) (drop 512 (drop put now)) (put + 512) front ∙ ap (drop 512) d.rest ∙ drop-drop 512 put old;
        }

-- what the writer gives and leaves
module _ (number : ℕ) (ws area : List ℕ) (count : ℕ) (e : count ≡ block_count ws) where
  pub gives_twelve : 65536 < number + count → (Err Numbers ≡ blocks_written number ws area) × (area ≡ blocks_put number ws area)
  unfolding blocks_written blocks_put
  gives_twelve h = rw (lt-ltb 65536 (number + block_count ws) (omega (arith, e))) (refl, refl)

  module _ (h : number + count ≤ 65536) where
    numbers : ltb 65536 (number + block_count ws) ≡ false
    numbers = le-ltb 65536 (number + block_count ws) (omega (arith, e))

    pub gives_seventeen : length area < 512 * count → (Err Area ≡ blocks_written number ws area) × (area ≡ blocks_put number ws area)
    unfolding blocks_written blocks_put
    gives_seventeen k = rw (numbers, lt-ltb (length area) (512 * block_count ws) (omega (arith, e))) (refl, refl)

    pub wrote : 512 * count ≤ length area → (new : List ℕ) → new ≡ blocks_bytes number ws ++ drop (512 * block_count ws) area
        → (Ok (record { count = 512 * count; next = number + count }) ≡ blocks_written number ws area) × (new ≡ blocks_put number ws area)
    unfolding blocks_written blocks_put
    wrote k new z = rw (numbers, le-ltb (length area) (512 * block_count ws) (omega (arith, e)), e) (refl, z)
