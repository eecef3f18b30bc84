-- Lists in pieces: one piece more, and joined again.
-- Assumes nothing.
use mathlib.Core.Path.{◌≡◌, refl, sym, ap, ap₂, ◌∙◌}
use mathlib.Core.List.{List, [], ◌∷◌, ◌++◌, append_assoc}
use Prim.Native.Nat.{ℕ, zero, suc, ◌+◌, ◌*◌, ◌/◌, ◌<◌, ◌≤◌}
use native.Mathlib.Omega.{arith}
use native.Mathlib.Nat.{suc-mul}
use lib.ListN.{length, take, drop, get_or, length-append, length-drop, length-take, take-append-drop}
use lib.Seq.{take_at, drop_at, take-append-le, drop-append-le}
use Rattle.recording_parts.specs.Recording.{cut, parts, blocks_of, joined}

-- every piece of this length, or of at most this
abbrev pub Sized : ℕ → List (List ℕ) → Type 0
Sized n bs = (i : ℕ) → i < length bs → length (get_or bs i []) ≡ n

abbrev pub AtMost : ℕ → List (List ℕ) → Type 0
AtMost n bs = (i : ℕ) → length (get_or bs i []) ≤ n

pub joined_append : (cs bs : List (List ℕ)) → joined (cs ++ bs) ≡ joined cs ++ joined bs
unfolding joined
joined_append [] bs = refl
joined_append (xs ∷ rest) bs = ap (λ (t : List ℕ). xs ++ t) (joined_append rest bs) ∙ sym (append_assoc xs (joined rest) (joined bs))

-- enough pieces, joined, are the whole
pub joined_cut : (size n : ℕ) (xs : List ℕ) → length xs ≤ n * size → joined (cut size n xs) ≡ xs
unfolding joined cut
joined_cut size zero [] h = refl
joined_cut size zero (x ∷ xs) h = absurd (omega arith)
joined_cut size (suc n) xs h =
    let k : length xs ≤ n * size + size = rw (suc-mul n size) at h in
    ap (λ (t : List ℕ). take size xs ++ t) (joined_cut size n (drop size xs) (omega (arith, length-drop size xs)))
    ∙ take-append-drop size xs

pub joined_parts : (ws : List ℕ) → joined (parts ws) ≡ ws
unfolding parts
joined_parts ws = joined_cut 126 ((length ws + 125) / 126) ws (omega arith)

pub joined_blocks : (bytes : List ℕ) → joined (blocks_of bytes) ≡ bytes
unfolding blocks_of
joined_blocks bytes = joined_cut 512 ((length bytes + 511) / 512) bytes (omega arith)

pub cut_at_most : (size n : ℕ) (xs : List ℕ) → AtMost size (cut size n xs)
unfolding cut
cut_at_most size zero xs i = omega arith
cut_at_most size (suc n) xs zero = omega (arith, length-take size xs)
cut_at_most size (suc n) xs (suc i) = cut_at_most size n (drop size xs) i

pub parts_at_most : (ws : List ℕ) → AtMost 126 (parts ws)
unfolding parts
parts_at_most ws = cut_at_most 126 ((length ws + 125) / 126) ws

-- pieces of one size, joined and cut again
pub cut_joined : (size : ℕ) (bs : List (List ℕ)) → Sized size bs → cut size (length bs) (joined bs) ≡ bs
unfolding joined cut
cut_joined size [] h = refl
cut_joined size (b ∷ bs) h =
    let n : length b ≡ size = h 0 (omega arith) in
    ap₂ (λ (x : List ℕ) (r : List (List ℕ)). x ∷ r) (take_at b (joined bs) size n)
    (ap (cut size (length bs)) (drop_at b (joined bs) size n) ∙ cut_joined size bs (λ i k. h (suc i) (omega arith)))

pub length_joined : (bs : List (List ℕ)) → Sized 512 bs → length (joined bs) ≡ 512 * length bs
unfolding joined
length_joined [] h = refl
length_joined (b ∷ bs) h = length-append b (joined bs) ∙ omega (arith, h 0 (omega arith), length_joined bs (λ i k. h (suc i) (omega arith)))

pub blocks_joined : (bs : List (List ℕ)) → Sized 512 bs → blocks_of (joined bs) ≡ bs
unfolding blocks_of
blocks_joined bs h =
    let n : (length (joined bs) + 511) / 512 ≡ length bs = omega (arith, length_joined bs h) in
    ap (λ (m : ℕ). cut 512 m (joined bs)) n ∙ cut_joined 512 bs h

-- the first block, and those behind it
pub blocks_cons : (bytes : List ℕ) → 0 < length bytes → blocks_of bytes ≡ take 512 bytes ∷ blocks_of (drop 512 bytes)
unfolding blocks_of cut
blocks_cons bytes h =
    let n : (length bytes + 511) / 512 ≡ suc ((length (drop 512 bytes) + 511) / 512) = omega (arith, length-drop 512 bytes) in
    ap (λ (m : ℕ). cut 512 m bytes) n

pub blocks_nil : (bytes : List ℕ) → length bytes ≡ 0 → blocks_of bytes ≡ []
unfolding blocks_of cut
blocks_nil bytes h =
    let n : (length bytes + 511) / 512 ≡ 0 = omega arith in
    ap (λ (m : ℕ). cut 512 m bytes) n

-- the first part of a list of words, and those behind it
pub parts_cons : (ws : List ℕ) → 0 < length ws → parts ws ≡ take 126 ws ∷ parts (drop 126 ws)
unfolding parts cut
parts_cons ws h =
    let n : (length ws + 125) / 126 ≡ suc ((length (drop 126 ws) + 125) / 126) = omega (arith, length-drop 126 ws) in
    ap (λ (m : ℕ). cut 126 m ws) n

pub parts_nil : (ws : List ℕ) → length ws ≡ 0 → parts ws ≡ []
unfolding parts cut
parts_nil ws h =
    let n : (length ws + 125) / 126 ≡ 0 = omega arith in
    ap (λ (m : ℕ). cut 126 m ws) n

pub length_cut : (size n : ℕ) (xs : List ℕ) → length (cut size n xs) ≡ n
unfolding cut
length_cut size zero xs = refl
length_cut size (suc n) xs = ap suc (length_cut size n (drop size xs))

pub length_parts : (ws : List ℕ) → length (parts ws) ≡ (length ws + 125) / 126
unfolding parts
length_parts ws = length_cut 126 ((length ws + 125) / 126) ws

-- words in two lists, the first of whole blocks
pub parts_append : (n : ℕ) (ws vs : List ℕ) → length ws ≡ 126 * n → parts (ws ++ vs) ≡ parts ws ++ parts vs
parts_append zero [] vs h = rw (parts_nil [] refl)
parts_append zero (w ∷ ws) vs h = absurd (omega arith)
parts_append (suc n) ws vs h =
    parts_cons (ws ++ vs) (omega (arith, length-append ws vs))
    ∙ ap₂ (λ (x : List ℕ) (r : List (List ℕ)). x ∷ r) (take-append-le 126 ws vs (omega arith))
    (ap parts (drop-append-le 126 ws vs (omega arith)) ∙ parts_append n (drop 126 ws) vs (length-drop 126 ws ∙ omega arith))
    ∙ ap (λ (t : List (List ℕ)). t ++ parts vs) (sym (parts_cons ws (omega arith)))
