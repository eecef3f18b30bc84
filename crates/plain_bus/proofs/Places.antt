-- What a place brings to the list of addresses, by what the code gathers there.
-- Assumes nothing.
use Prim.Native.Nat.{ℕ, suc, ◌+◌, ◌-◌, ◌<◌, ◌≤◌}
use mathlib.Core.Path.{◌≡◌, refl, sym, ap, ap₂, ◌∙◌}
use mathlib.Core.Bool.{Bool, true, false, not, ◌&&◌}
use mathlib.Core.List.{List, [], ◌∷◌, ◌++◌, map, append_assoc, append-nil}
use native.Mathlib.Omega.{arith}
use native.Mathlib.Numerals.{add-one}
use lib.Dec.{eqb, ltb}
use lib.ListN.{length, take, drop, set, length-map, length-set, take-append-drop}
use lib.Seq.{take_all, length-take-le, take-suc-set, drop-set-lt, drop-drop}
use borrow.Author.Tests.{ltb-true, ltb-false, lt-ltb, le-ltb, ne_eqb}
use Rattle.bits.specs.Byte.{pick, num}
use Rattle.bits.proofs.Mask.{num_lt}
use Rattle.bus.specs.Bus.{is_own}
use Rattle.bus_ddc2b.specs.Ddc2b.{compared}
use Rattle.plain_bus.specs.Plain.{sda_before, start_at, rises_since, levels_at, byte_of, Found, found, address_at, ends_at, addresses_from, addresses}
use Rattle.plain_bus.specs.Reading.{transfer_of, transfer_at, has_address, ends_by, word_of}
use Rattle.plain_bus.specs.declared.Transfer.{Transfer}

-- ---- rises counted up to nine

eight_by : (levels : List Bool) (few : Bool) → ltb (length levels) 8 ≡ few → not few ≡ ltb 7 (length (take 9 levels))
eight_by levels true e =
    let h : length levels < 8 = ltb-true (length levels) 8 e in
    sym (rw (take_all 9 levels (omega arith)) (le-ltb 7 (length levels) (omega arith)))
eight_by levels false e =
    let h : 8 ≤ length levels = ltb-false (length levels) 8 e in
    more (ltb (length levels) 9) refl
  where
    more : (t : Bool) → ltb (length levels) 9 ≡ t → true ≡ ltb 7 (length (take 9 levels))
    more true f =
        let h : 8 ≤ length levels = ltb-false (length levels) 8 e in
        sym (rw (take_all 9 levels (omega (arith, ltb-true (length levels) 9 f))) (lt-ltb 7 (length levels) (omega arith)))
    more false f = rw (length-take-le 9 levels (ltb-false (length levels) 9 f))

nine_by : (levels : List Bool) (few : Bool) → ltb (length levels) 9 ≡ few → not few ≡ eqb (length (take 9 levels)) 9
nine_by levels true e =
    let h : length levels < 9 = ltb-true (length levels) 9 e in
    sym (rw (take_all 9 levels (omega arith)) (ne_eqb (length levels) 9 (omega arith)))
nine_by levels false e = rw (length-take-le 9 levels (ltb-false (length levels) 9 e))

-- ---- one place

address_by : (own : ℕ) (start : Bool) (levels : List Bool) (n : ℕ) → n ≡ length levels
    → pick (start && not (ltb n 8)) (found own (byte_of (take 8 levels)) ∷ []) []
    ≡ pick (has_address (transfer_of (pick start levels []))) (found own (transfer_of (pick start levels [])).byte ∷ []) []
address_by own false levels n e = refl
address_by own true levels n e = rw (e, eight_by levels (ltb (length levels) 8) refl)

ends_by_lem : (own : ℕ) (start : Bool) (levels : List Bool) (n : ℕ) → n ≡ length levels
    → ((start && not (ltb n 9)) && is_own (compared own (byte_of (take 8 levels)))) ≡ ends_by own (transfer_of (pick start levels []))
unfolding ends_by
ends_by_lem own false levels n e = refl
ends_by_lem own true levels n e = rw (e, nine_by levels (ltb (length levels) 9) refl)

module _ (own : ℕ) (cs : List ℕ) (s : ℕ) where
  same_length : length (rises_since cs s) ≡ length (levels_at cs (rises_since cs s))
  same_length = sym (length-map (rises_since cs s) (sda_before cs))

  address_at_lem : address_at own cs s ≡ pick (has_address (transfer_at cs s)) (found own (transfer_at cs s).byte ∷ []) []
  unfolding address_at transfer_at
  address_at_lem = address_by own (start_at cs s) (levels_at cs (rises_since cs s)) (length (rises_since cs s)) same_length

  ends_at_lem : ends_at own cs s ≡ ends_by own (transfer_at cs s)
  unfolding ends_at transfer_at
  ends_at_lem = ends_by_lem own (start_at cs s) (levels_at cs (rises_since cs s)) (length (rises_since cs s)) same_length

-- ---- the addresses from a place on

abbrev pub left : ℕ → List ℕ → ℕ → List Found
left own cs s = addresses_from own cs s (length cs - s)

left_by : (own : ℕ) (cs : List ℕ) (s n m : ℕ) → m ≡ suc n
    → addresses_from own cs s m ≡ address_at own cs s ++ pick (ends_at own cs s) [] (addresses_from own cs (suc s) n)
unfolding addresses_from
left_by own cs s n m e = rw e

-- the place of a transfer brings its address, and no place after it where the reading stops there
pub left_of : (own : ℕ) (cs : List ℕ) (s : ℕ) (t : Transfer) → s < length cs → t ≡ transfer_at cs s
    → left own cs s ≡ pick (has_address t) (found own t.byte ∷ []) [] ++ pick (ends_by own t) [] (left own cs (s + 1))
left_of own cs s t h e =
    rw (e, add-one s, ← address_at_lem own cs s, ← ends_at_lem own cs s) (left_by own cs s (length cs - suc s) (length cs - s) (omega arith))

none_by : (own : ℕ) (cs : List ℕ) (s n : ℕ) → n ≡ 0 → addresses_from own cs s n ≡ []
unfolding addresses_from
none_by own cs s n e = rw e

pub left_none : (own : ℕ) (cs : List ℕ) (s : ℕ) → length cs ≤ s → left own cs s ≡ []
left_none own cs s h = none_by own cs s (length cs - s) (omega arith)

all_by : (own : ℕ) (cs : List ℕ) (n : ℕ) → n ≡ length cs → addresses_from own cs 0 n ≡ addresses own cs
all_by own cs n e = ap (addresses_from own cs 0) e

pub left_all : (own : ℕ) (cs : List ℕ) → left own cs 0 ≡ addresses own cs
left_all own cs = all_by own cs (length cs - 0) (omega arith)

-- ---- counting

pub count_first : (own : ℕ) (cs : List ℕ) → 0 + length (left own cs 0) ≡ length (addresses own cs)
count_first own cs = omega (arith, ap length (left_all own cs))

length_by : (b : Bool) (a : Found) (rest : List Found) → length (pick b (a ∷ []) [] ++ rest) ≡ num b + length rest
length_by true a rest = omega arith
length_by false a rest = omega arith

module _ (own : ℕ) (cs : List ℕ) (s n m : ℕ) (t : Transfer) (h : s < length cs) (e : t ≡ transfer_at cs s) (q : m ≡ n + num (has_address t))
    (inv : n + length (left own cs s) ≡ length (addresses own cs)) where
  length_left : length (left own cs s) ≡ num (has_address t) + length (pick (ends_by own t) [] (left own cs (s + 1)))
  length_left = ap length (left_of own cs s t h e) ∙ length_by (has_address t) (found own t.byte) (pick (ends_by own t) [] (left own cs (s + 1)))

  pub count_more : ends_by own t ≡ false → m + length (left own cs (s + 1)) ≡ length (addresses own cs)
  count_more f = omega (arith, rw f at length_left)

  pub count_last_lem : ends_by own t ≡ true → m ≡ length (addresses own cs)
  count_last_lem f = omega (arith, rw f at length_left)

  pub count_within : n ≤ s → m ≤ s + 1
  count_within w = omega (arith, num_lt (has_address t))

pub count_none : (own : ℕ) (cs : List ℕ) (s n : ℕ) → length cs ≤ s → n + length (left own cs s) ≡ length (addresses own cs) → n ≡ length (addresses own cs)
count_none own cs s n h inv = omega (arith, ap length (left_none own cs s h))

-- ---- writing: of the addresses `all`, n are written, and `rest` is left; the places held old

pub record Listing (all : List Found) (old now : List ℕ) (n : ℕ) (rest : List Found) : Type 0 where
  pub same : length now ≡ length old
  pub count : n + length rest ≡ length all
  pub written : take n now ++ map word_of rest ≡ map word_of all
  pub kept : drop n now ≡ drop n old

pub listing_first : (own : ℕ) (cs old : List ℕ) → Listing (addresses own cs) old old 0 (left own cs 0)
listing_first own cs old = record { same = refl; count = count_first own cs; written = ap (map word_of) (left_all own cs); kept = refl }

pub put_one : (all : List Found) (old now : List ℕ) (n : ℕ) (b : Bool) (a : Found) (rest : List Found) → length all ≤ length old
    → Listing all old now n (pick b (a ∷ []) [] ++ rest) → Listing all old (pick b (set now n (word_of a)) now) (n + num b) rest
put_one all old now n true a rest h l =
    let inside : n < length now = omega (arith, l.same, l.count) in
    record {
      same = simp length-set l.same;
      count = omega (arith, l.count);
      written =
          rw (add-one n, take-suc-set now n (word_of a) inside, append_assoc (take n now) (word_of a ∷ []) (map word_of rest)) l.written;
      kept = drop-set-lt (n + 1) now n (word_of a) (omega arith) ∙ sym (drop-drop 1 n now) ∙ ap (drop 1) l.kept ∙ drop-drop 1 n old;
    }
put_one all old now n false a rest h l =
    let same_count : n + 0 ≡ n = omega arith in
    rw same_count l

pub all_put : (all : List Found) (old now : List ℕ) (n : ℕ) → Listing all old now n [] → now ≡ map word_of all ++ drop (length all) old
all_put all old now n l =
    let e : n ≡ length all = omega (arith, l.count) in
    sym (take-append-drop n now)
    ∙ ap₂ (λ (x y : List ℕ). x ++ y) (sym (append-nil (take n now)) ∙ l.written) (l.kept ∙ ap (λ (m : ℕ). drop m old) e)

-- ---- a turn of the writing loop, and its ends

module _ (own : ℕ) (cs old now : List ℕ) (n s : ℕ) (t : Transfer) (h : s < length cs) (e : t ≡ transfer_at cs s) (k : length (addresses own cs) ≤ length old)
    (l : Listing (addresses own cs) old now n (left own cs s)) where
  pub room_place : n + num (has_address t) ≤ length now
  room_place =
      let z = ap length (left_of own cs s t h e) ∙ length_by (has_address t) (found own t.byte) (pick (ends_by own t) [] (left own cs (s + 1))) in
      omega (arith, z, l.same, l.count)

  module _ (new : List ℕ) (m : ℕ) (p : new ≡ pick (has_address t) (set now n (word_of (found own t.byte))) now) (q : m ≡ n + num (has_address t)) where
    listing_place : Listing (addresses own cs) old new m (pick (ends_by own t) [] (left own cs (s + 1)))
    listing_place = rw (p, q) (put_one (addresses own cs) old now n (has_address t) (found own t.byte) (pick (ends_by own t) [] (left own cs (s + 1))) k (rw (left_of own cs s t h e) at l))

    pub listing_more : ends_by own t ≡ false → Listing (addresses own cs) old new m (left own cs (s + 1))
    listing_more f = rw f at listing_place

    pub listing_last : ends_by own t ≡ true → Listing (addresses own cs) old new m []
    listing_last f = rw f at listing_place

pub listing_end : (own : ℕ) (cs old now : List ℕ) (n s : ℕ) → length cs ≤ s → Listing (addresses own cs) old now n (left own cs s)
    → now ≡ map word_of (addresses own cs) ++ drop (length (addresses own cs)) old
listing_end own cs old now n s h l = all_put (addresses own cs) old now n (rw (left_none own cs s h) at l)
