-- What is sampled of an address before a place of the list, and what the plain reading finds from that place on.
-- Assumes nothing.
use Prim.Native.Nat.{ℕ, suc, ◌+◌, ◌-◌}
use mathlib.Core.Path.{◌≡◌, refl, ap, sym, ◌∙◌}
use mathlib.Core.List.{List, [], ◌∷◌, ◌++◌, append_assoc, append-nil}
use mathlib.Core.Bool.{Bool, true, false, not, ◌&&◌, ◌||◌, and-true, and-false, true≢false}
use native.Mathlib.Omega.{arith}
use lib.ListN.{length, get_or, take, length-append, length-map}
use lib.Seq.{take_at}
use lib.Dec.{eqb, ltb}
use borrow.Author.Tests.{ltb-true, ltb-false, lt-ltb, le-ltb, eqb-true, eqb-false}
use Rattle.bits.specs.Byte.{pick}
use Rattle.events.specs.Pins.{SDA, SCL}
use Rattle.bus.specs.Bus.{is_own}
use Rattle.bus_ddc2b.specs.Ddc2b.{compared}
use Rattle.plain_bus.specs.Plain.{line_at, high_at, scl_before, sda_before, rise_at, start_at, stop_at, rises_from, levels_at, byte_of, Found, found, address_at, ends_at, addresses_from, changes_from}

-- ---- what a place is

pub data Kind : Type 0 where
  start : Kind
  stop : Kind
  rise : Bool → Kind
  other : Kind

-- by the definitions of the list
pub data At (cs : List ℕ) (i : ℕ) : Kind → Type 0 where
  starts : start_at cs i ≡ true → At cs i start
  stops : start_at cs i ≡ false → stop_at cs i ≡ true → At cs i stop
  rises : start_at cs i ≡ false → stop_at cs i ≡ false → rise_at cs i ≡ true → At cs i (rise (sda_before cs i))
  others : start_at cs i ≡ false → stop_at cs i ≡ false → rise_at cs i ≡ false → At cs i other

-- by the levels before it: SDA put to l
abbrev pub sda_kind : Bool → Bool → Bool → Kind
sda_kind false x l = other
sda_kind true true true = other
sda_kind true true false = start
sda_kind true false true = stop
sda_kind true false false = other

-- SCL put to l
abbrev pub scl_kind : Bool → Bool → Bool → Kind
scl_kind true x l = other
scl_kind false x true = rise x
scl_kind false x false = other

module _ (cs : List ℕ) (i : ℕ) where
  at_sda_by : line_at cs i ≡ SDA → (s x l : Bool) → scl_before cs i ≡ s → sda_before cs i ≡ x → high_at cs i ≡ l → At cs i (sda_kind s x l)
  unfolding start_at stop_at rise_at
  at_sda_by e false x true a b c = others (rw (e, c)) (rw (e, c, a)) (rw e)
  at_sda_by e false x false a b c = others (rw (e, c, a)) (rw (e, c)) (rw e)
  at_sda_by e true true true a b c = others (rw (e, c)) (rw (e, c, a, b)) (rw e)
  at_sda_by e true true false a b c = starts (rw (e, c, a, b))
  at_sda_by e true false true a b c = stops (rw (e, c)) (rw (e, c, a, b))
  at_sda_by e true false false a b c = others (rw (e, c, a, b)) (rw (e, c)) (rw e)

  pub at_sda : line_at cs i ≡ SDA → At cs i (sda_kind (scl_before cs i) (sda_before cs i) (high_at cs i))
  at_sda e = at_sda_by e (scl_before cs i) (sda_before cs i) (high_at cs i) refl refl refl

  at_scl_by : line_at cs i ≡ SCL → (s l : Bool) → scl_before cs i ≡ s → high_at cs i ≡ l → At cs i (scl_kind s (sda_before cs i) l)
  unfolding start_at stop_at rise_at
  at_scl_by e true true a c = others (rw e) (rw e) (rw (e, c, a))
  at_scl_by e true false a c = others (rw e) (rw e) (rw (e, c))
  at_scl_by e false true a c = rises (rw e) (rw e) (rw (e, c, a))
  at_scl_by e false false a c = others (rw e) (rw e) (rw (e, c))

  pub at_scl : line_at cs i ≡ SCL → At cs i (scl_kind (scl_before cs i) (sda_before cs i) (high_at cs i))
  at_scl e = at_scl_by e (scl_before cs i) (high_at cs i) refl refl

-- ---- what is sampled of an address before a place

-- nothing that can still be listed; the levels since a START, fewer than eight; an address that matched, its ninth rise to come
pub data Sampled : Type 0 where
  nothing : Sampled
  since : List Bool → Sampled
  ours : Sampled

abbrev pub Few : Sampled → Type 0
Few nothing = Unit
Few (since ls) = ltb (length ls) 8 ≡ true
Few ours = Unit

abbrev pub is_ours : ℕ → ℕ → Bool
is_ours own byte = is_own (compared own byte)

abbrev pub sampled_eight : Bool → Sampled
sampled_eight true = ours
sampled_eight false = nothing

abbrev pub sampled_rise : ℕ → Bool → Sampled → Sampled
sampled_rise own x nothing = nothing
sampled_rise own x (since ls) = pick (eqb (length ls) 7) (sampled_eight (is_ours own (byte_of (ls ++ (x ∷ []))))) (since (ls ++ (x ∷ [])))
sampled_rise own x ours = ours

abbrev pub sampled_next : ℕ → Kind → Sampled → Sampled
sampled_next own start h = since []
sampled_next own stop h = nothing
sampled_next own (rise x) h = sampled_rise own x h
sampled_next own other h = h

-- what the place brings
abbrev pub found_rise : ℕ → Bool → Sampled → List Found
found_rise own x nothing = []
found_rise own x (since ls) = pick (eqb (length ls) 7) (found own (byte_of (ls ++ (x ∷ []))) ∷ []) []
found_rise own x ours = []

abbrev pub found_next : ℕ → Kind → Sampled → List Found
found_next own start h = []
found_next own stop h = []
found_next own (rise x) h = found_rise own x h
found_next own other h = []

-- and whether the reading stops there
abbrev pub stops_rise : Sampled → Bool
stops_rise nothing = false
stops_rise (since ls) = false
stops_rise ours = true

abbrev pub stops_next : Kind → Sampled → Bool
stops_next start h = false
stops_next stop h = false
stops_next (rise x) h = stops_rise h
stops_next other h = false

-- ---- what is found from a place on, and up to where the list is read

abbrev address_in : ℕ → List Bool → List Found
address_in own levels = pick (not (ltb (length levels) 8)) (found own (byte_of (take 8 levels)) ∷ []) []

abbrev ends_in : ℕ → List Bool → Bool
ends_in own levels = not (ltb (length levels) 9) && is_ours own (byte_of (take 8 levels))

abbrev found_since : ℕ → List Bool → List Found → List Found
found_since own levels rest = address_in own levels ++ pick (ends_in own levels) [] rest

abbrev pub found_in : ℕ → List ℕ → ℕ → ℕ → Sampled → List Found
found_in own cs i n nothing = addresses_from own cs i n
found_in own cs i n (since ls) = found_since own (ls ++ levels_at cs (rises_from cs i n)) (addresses_from own cs i n)
found_in own cs i n ours = pick (ltb 0 (length (rises_from cs i n))) [] (addresses_from own cs i n)

abbrev pub read_in : ℕ → List ℕ → ℕ → ℕ → Sampled → ℕ
read_in own cs i n nothing = changes_from own cs i n
read_in own cs i n (since ls) =
    pick (ends_in own (ls ++ levels_at cs (rises_from cs i n))) (suc (get_or (rises_from cs i n) (8 - length ls) 0)) (changes_from own cs i n)
read_in own cs i n ours = pick (ltb 0 (length (rises_from cs i n))) (suc (get_or (rises_from cs i n) 0 0)) (changes_from own cs i n)

-- ---- from one place to the next

-- what a START or a STOP ends is found no more
since_ended : (own : ℕ) (ls : List Bool) (rest : List Found) → ltb (length ls) 8 ≡ true → found_since own (ls ++ []) rest ≡ rest
since_ended own ls rest h = rw (append-nil ls, h, lt-ltb (length ls) 9 (omega (arith, ltb-true (length ls) 8 h)))

since_unended : (own : ℕ) (ls : List Bool) → ltb (length ls) 8 ≡ true → ends_in own (ls ++ []) ≡ false
since_unended own ls h = rw (append-nil ls, lt-ltb (length ls) 9 (omega (arith, ltb-true (length ls) 8 h)))

-- eight levels are an address; a ninth ends the reading where it matched
module _ (own : ℕ) (eight : List Bool) (levels : List Bool) (e : length eight ≡ 8) where
  not_few : ltb (length (eight ++ levels)) 8 ≡ false
  not_few = rw (length-append eight levels) (le-ltb (length eight + length levels) 8 (omega arith))

  first_eight : take 8 (eight ++ levels) ≡ eight
  first_eight = take_at eight levels 8 e

  ninth_by : (few : Bool) → ltb (length (eight ++ levels)) 9 ≡ few → not few ≡ ltb 0 (length levels)
  ninth_by true f = sym (le-ltb 0 (length levels) (omega (arith, length-append eight levels, ltb-true (length (eight ++ levels)) 9 f)))
  ninth_by false f = sym (lt-ltb 0 (length levels) (omega (arith, length-append eight levels, ltb-false (length (eight ++ levels)) 9 f)))

  eight_found : address_in own (eight ++ levels) ≡ found own (byte_of eight) ∷ []
  eight_found = rw (not_few, first_eight)

  eight_ends : ends_in own (eight ++ levels) ≡ (ltb 0 (length levels) && is_ours own (byte_of eight))
  eight_ends = rw (first_eight, ninth_by (ltb (length (eight ++ levels)) 9) refl)

-- the two ways that an address of eight levels goes on
eight_goes : (own : ℕ) (cs : List ℕ) (i n : ℕ) (matched : Bool)
    → pick (ltb 0 (length (rises_from cs i n)) && matched) [] (addresses_from own cs i n) ≡ found_in own cs i n (sampled_eight matched)
eight_goes own cs i n true = rw (and-true (ltb 0 (length (rises_from cs i n))))
eight_goes own cs i n false = rw (and-false (ltb 0 (length (rises_from cs i n))))

eight_reads : (own : ℕ) (cs : List ℕ) (i n : ℕ) (matched : Bool)
    → pick (ltb 0 (length (rises_from cs i n)) && matched) (suc (get_or (rises_from cs i n) 0 0)) (changes_from own cs i n) ≡ read_in own cs i n (sampled_eight matched)
eight_reads own cs i n true = rw (and-true (ltb 0 (length (rises_from cs i n))))
eight_reads own cs i n false = rw (and-false (ltb 0 (length (rises_from cs i n))))

module _ (own : ℕ) (cs : List ℕ) (i n : ℕ) where
  -- the rises from a place on
  none_at : (start_at cs i || stop_at cs i) ≡ true → rises_from cs i (suc n) ≡ []
  unfolding rises_from
  none_at e = rw e

  or_stop : start_at cs i ≡ false → stop_at cs i ≡ true → (start_at cs i || stop_at cs i) ≡ true
  or_stop a b = rw (a, b)

  one_at : start_at cs i ≡ false → stop_at cs i ≡ false → rise_at cs i ≡ true → rises_from cs i (suc n) ≡ i ∷ rises_from cs (suc i) n
  unfolding rises_from
  one_at a b c = rw (a, b, c)

  later_at : start_at cs i ≡ false → stop_at cs i ≡ false → rise_at cs i ≡ false → rises_from cs i (suc n) ≡ rises_from cs (suc i) n
  unfolding rises_from
  later_at a b c = rw (a, b, c)

  -- a place with no START brings no address of its own
  no_address : start_at cs i ≡ false → addresses_from own cs i (suc n) ≡ addresses_from own cs (suc i) n
  unfolding addresses_from address_at ends_at
  no_address a = rw a

  no_stop : start_at cs i ≡ false → changes_from own cs i (suc n) ≡ changes_from own cs (suc i) n
  unfolding changes_from ends_at
  no_stop a = rw a

  -- a START brings what is found with no level sampled
  start_found : length cs ≡ i + suc n → start_at cs i ≡ true → addresses_from own cs i (suc n) ≡ found_in own cs (suc i) n (since [])
  unfolding addresses_from address_at ends_at
  start_found m a =
      let left : length cs - suc i ≡ n = omega arith in
      rw (left, a, length-map (rises_from cs (suc i) n) (sda_before cs))

  start_reads : length cs ≡ i + suc n → start_at cs i ≡ true → changes_from own cs i (suc n) ≡ read_in own cs (suc i) n (since [])
  unfolding changes_from ends_at
  start_reads m a =
      let left : length cs - suc i ≡ n = omega arith in
      rw (left, a, length-map (rises_from cs (suc i) n) (sda_before cs))

  -- whatever was sampled, a START or a STOP ends it
  ended_found : (h : Sampled) → Few h → (start_at cs i || stop_at cs i) ≡ true → found_in own cs i (suc n) h ≡ addresses_from own cs i (suc n)
  ended_found nothing f e = refl
  ended_found (since ls) f e = rw (none_at e) (since_ended own ls (addresses_from own cs i (suc n)) f)
  ended_found ours f e = rw (none_at e)

  ended_reads : (h : Sampled) → Few h → (start_at cs i || stop_at cs i) ≡ true → read_in own cs i (suc n) h ≡ changes_from own cs i (suc n)
  ended_reads nothing f e = refl
  ended_reads (since ls) f e = rw (none_at e, since_unended own ls f)
  ended_reads ours f e = rw (none_at e)

  -- another change is passed over
  other_found : (h : Sampled) → start_at cs i ≡ false → stop_at cs i ≡ false → rise_at cs i ≡ false → found_in own cs i (suc n) h ≡ found_in own cs (suc i) n h
  other_found nothing a b c = no_address a
  other_found (since ls) a b c = rw (later_at a b c, no_address a)
  other_found ours a b c = rw (later_at a b c, no_address a)

  other_reads : (h : Sampled) → start_at cs i ≡ false → stop_at cs i ≡ false → rise_at cs i ≡ false → read_in own cs i (suc n) h ≡ read_in own cs (suc i) n h
  other_reads nothing a b c = no_stop a
  other_reads (since ls) a b c = rw (later_at a b c, no_stop a)
  other_reads ours a b c = rw (later_at a b c, no_stop a)

  -- a rise adds a level
  rise_found : (h : Sampled) → Few h → stops_rise h ≡ false → start_at cs i ≡ false → stop_at cs i ≡ false → rise_at cs i ≡ true
      → found_in own cs i (suc n) h ≡ found_rise own (sda_before cs i) h ++ found_in own cs (suc i) n (sampled_rise own (sda_before cs i) h)
  rise_found nothing f s a b c = no_address a
  rise_found (since ls) f s a b c = rw (one_at a b c, no_address a) (gathered (eqb (length ls) 7) refl)
    where
      joined : ls ++ (sda_before cs i ∷ levels_at cs (rises_from cs (suc i) n)) ≡ (ls ++ (sda_before cs i ∷ [])) ++ levels_at cs (rises_from cs (suc i) n)
      joined = sym (append_assoc ls (sda_before cs i ∷ []) (levels_at cs (rises_from cs (suc i) n)))

      gathered : (last : Bool) → eqb (length ls) 7 ≡ last
          → found_since own (ls ++ (sda_before cs i ∷ levels_at cs (rises_from cs (suc i) n))) (addresses_from own cs (suc i) n)
          ≡ pick last (found own (byte_of (ls ++ (sda_before cs i ∷ []))) ∷ []) []
          ++ found_in own cs (suc i) n (pick last (sampled_eight (is_ours own (byte_of (ls ++ (sda_before cs i ∷ []))))) (since (ls ++ (sda_before cs i ∷ []))))
      gathered false l = rw joined
      gathered true l =
          let eight : length (ls ++ (sda_before cs i ∷ [])) ≡ 8 = length-append ls (sda_before cs i ∷ []) ∙ omega (arith, eqb-true (length ls) 7 l) in
          rw (
            joined,
            eight_found own (ls ++ (sda_before cs i ∷ [])) (levels_at cs (rises_from cs (suc i) n)) eight,
            eight_ends own (ls ++ (sda_before cs i ∷ [])) (levels_at cs (rises_from cs (suc i) n)) eight,
            length-map (rises_from cs (suc i) n) (sda_before cs),
          )
          (ap (λ (rest : List Found). found own (byte_of (ls ++ (sda_before cs i ∷ []))) ∷ rest) (eight_goes own cs (suc i) n (is_ours own (byte_of (ls ++ (sda_before cs i ∷ []))))))
  rise_found ours f s a b c = absurd (true≢false s)

  rise_reads : (h : Sampled) → Few h → stops_rise h ≡ false → start_at cs i ≡ false → stop_at cs i ≡ false → rise_at cs i ≡ true
      → read_in own cs i (suc n) h ≡ read_in own cs (suc i) n (sampled_rise own (sda_before cs i) h)
  rise_reads nothing f s a b c = no_stop a
  rise_reads (since ls) f s a b c = rw (one_at a b c, no_stop a) (gathered (eqb (length ls) 7) refl)
    where
      joined : ls ++ (sda_before cs i ∷ levels_at cs (rises_from cs (suc i) n)) ≡ (ls ++ (sda_before cs i ∷ [])) ++ levels_at cs (rises_from cs (suc i) n)
      joined = sym (append_assoc ls (sda_before cs i ∷ []) (levels_at cs (rises_from cs (suc i) n)))

      gathered : (last : Bool) → eqb (length ls) 7 ≡ last
          → pick (ends_in own (ls ++ (sda_before cs i ∷ levels_at cs (rises_from cs (suc i) n)))) (suc (get_or (i ∷ rises_from cs (suc i) n) (8 - length ls) 0)) (changes_from own cs (suc i) n)
          ≡ read_in own cs (suc i) n (pick last (sampled_eight (is_ours own (byte_of (ls ++ (sda_before cs i ∷ []))))) (since (ls ++ (sda_before cs i ∷ []))))
      gathered false l =
          let index : 8 - length ls ≡ suc (7 - length ls) = omega (arith, ltb-true (length ls) 8 f, eqb-false (length ls) 7 l) in
          let later : 8 - length (ls ++ (sda_before cs i ∷ [])) ≡ 7 - length ls = rw (length-append ls (sda_before cs i ∷ [])) (omega arith) in
          rw (joined, index, later)
      gathered true l =
          let eight : length (ls ++ (sda_before cs i ∷ [])) ≡ 8 = length-append ls (sda_before cs i ∷ []) ∙ omega (arith, eqb-true (length ls) 7 l) in
          let index : 8 - length ls ≡ 1 = omega (arith, eqb-true (length ls) 7 l) in
          rw (joined, index, eight_ends own (ls ++ (sda_before cs i ∷ [])) (levels_at cs (rises_from cs (suc i) n)) eight, length-map (rises_from cs (suc i) n) (sda_before cs))
          (eight_reads own cs (suc i) n (is_ours own (byte_of (ls ++ (sda_before cs i ∷ [])))))
  rise_reads ours f s a b c = absurd (true≢false s)

-- ---- a place of the list

pub record Turn (own : ℕ) (cs : List ℕ) (i n : ℕ) (k : Kind) (h : Sampled) : Type 0 where
  pub same : found_in own cs i (suc n) h ≡ found_next own k h ++ found_in own cs (suc i) n (sampled_next own k h)
  pub reads : read_in own cs i (suc n) h ≡ read_in own cs (suc i) n (sampled_next own k h)

pub turn : (own : ℕ) (cs : List ℕ) (i n : ℕ) {k : Kind} (h : Sampled) → length cs ≡ i + suc n → At cs i k → Few h → stops_next k h ≡ false → Turn own cs i n k h
turn own cs i n h m (starts a) f s =
    let e : (start_at cs i || stop_at cs i) ≡ true = rw a in
    record { same = ended_found own cs i n h f e ∙ start_found own cs i n m a; reads = ended_reads own cs i n h f e ∙ start_reads own cs i n m a }
turn own cs i n h m (stops a b) f s =
    let e = or_stop own cs i n a b in
    record { same = ended_found own cs i n h f e ∙ no_address own cs i n a; reads = ended_reads own cs i n h f e ∙ no_stop own cs i n a }
turn own cs i n h m (rises a b c) f s = record { same = rise_found own cs i n h f s a b c; reads = rise_reads own cs i n h f s a b c }
turn own cs i n h m (others a b c) f s = record { same = other_found own cs i n h a b c; reads = other_reads own cs i n h a b c }

-- the ninth rise of an address that matched: nothing more is found, and the list is read up to it
rise_stops : (own : ℕ) (cs : List ℕ) (i n : ℕ) (h : Sampled) → start_at cs i ≡ false → stop_at cs i ≡ false → rise_at cs i ≡ true → stops_rise h ≡ true
    → (found_in own cs i (suc n) h ≡ []) × (read_in own cs i (suc n) h ≡ suc i)
rise_stops own cs i n nothing a b c s = absurd (true≢false (sym s))
rise_stops own cs i n (since ls) a b c s = absurd (true≢false (sym s))
rise_stops own cs i n ours a b c s =
    let some : ltb 0 (suc (length (rises_from cs (suc i) n))) ≡ true = lt-ltb 0 (suc (length (rises_from cs (suc i) n))) (omega arith) in
    (rw (one_at own cs i n a b c, some), rw (one_at own cs i n a b c, some))

pub last_turn : (own : ℕ) (cs : List ℕ) (i n : ℕ) {k : Kind} (h : Sampled) → At cs i k → stops_next k h ≡ true
    → (found_in own cs i (suc n) h ≡ []) × (read_in own cs i (suc n) h ≡ suc i)
last_turn own cs i n h (starts a) s = absurd (true≢false (sym s))
last_turn own cs i n h (stops a b) s = absurd (true≢false (sym s))
last_turn own cs i n h (rises a b c) s = rise_stops own cs i n h a b c s
last_turn own cs i n h (others a b c) s = absurd (true≢false (sym s))

-- past the last place nothing is found
pub end_found : (own : ℕ) (cs : List ℕ) (i : ℕ) (h : Sampled) → Few h → found_in own cs i 0 h ≡ []
unfolding rises_from addresses_from
end_found own cs i nothing f = refl
end_found own cs i (since ls) f = since_ended own ls [] f
end_found own cs i ours f = refl

pub end_reads : (own : ℕ) (cs : List ℕ) (i : ℕ) (h : Sampled) → Few h → read_in own cs i 0 h ≡ i
unfolding rises_from changes_from
end_reads own cs i nothing f = refl
end_reads own cs i (since ls) f = rw (since_unended own ls f)
end_reads own cs i ours f = refl
