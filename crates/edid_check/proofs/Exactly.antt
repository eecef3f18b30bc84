-- Each number is given exactly when the wishes say, and a block is accepted exactly when it keeps every rule.
-- Assumes nothing.
use mathlib.Core.Path.{◌≡◌, refl, sym, ap, ◌∙◌}
use mathlib.Core.Logic.{◌⊎◌, ⊎_elim, inl, inr}
use mathlib.Core.Bool.{Bool, true, false, ◌&&◌, ◌||◌, true≢false}
use mathlib.Core.List.{List, [], ◌∷◌}
use Prim.Native.Nat.{ℕ, ◌/◌, ◌%◌, ◌<◌}
use native.Mathlib.Omega.{arith}
use borrow.Author.Tests.{eqb-true, eq-eqb, ltb-true, lt-ltb, ne_eqb}
use lib.Dec.{eqb, ltb}
use lib.ListN.{length}
use Rattle.bits.specs.Byte.{pick, bit}
use Rattle.bits.proofs.Finite.{both}
use Rattle.edid_check.specs.Block.{byte_at, length_fits, header_fits, sum_fits, first_broken}
use Rattle.edid_check.specs.declared.Verdict.{Verdict}
use Rattle.edid_check.specs.declared.Edition.TheVariants.{Revision3, Revision4}
use Rattle.edid_check.specs.declared.Verdict.TheVariants.{Accepted, Length, Header, Version, Sum, Digital, Depth, Interface}
use Rattle.edid_check.proofs.Framed.{framed, framed_fits}
use Rattle.edid_check.specs.Edid.{version_of, revision_of, input_of, version_fits, digital_fits, depth_fits, interface_fits, input_by3, input_by4, input_verdict, contents, verdict, number_of, edition_of, only_for, digital_rule, depth_rule, interface_rule, rules, Judged, Given, Keeps}

-- ---- the number of the first rule broken

-- over the tests: size, header, version 1, revision 3, revision 4, sum, and byte 20 by each rule
abbrev decided : Bool → Bool → Bool → Bool → Bool → Bool → Bool → Bool → Bool → Verdict
decided a b c three four d e f g =
    pick a (pick b (pick (c && (three || four)) (pick d (pick three (pick e (Accepted Revision3) Digital) (pick f (pick g (Accepted Revision4) Interface) Depth)) Sum) Version) Header) Length

abbrev first_of : Bool → Bool → Bool → Bool → Bool → Bool → Bool → Bool → Bool → ℕ
first_of a b c three four d e f g =
    first_broken ((30, a) ∷ (31, b) ∷ (32, c && (three || four)) ∷ (33, d) ∷ (34, only_for three e) ∷ (35, only_for four f) ∷ (36, only_for four g) ∷ [])

number_by : (a b c three four d e f g : Bool) → (three && four) ≡ false → number_of (decided a b c three four d e f g) ≡ first_of a b c three four d e f g
number_by false b c three four d e f g h = refl
number_by true false c three four d e f g h = refl
number_by true true false three four d e f g h = refl
number_by true true true false false d e f g h = refl
number_by true true true true true d e f g h = absurd (true≢false h)
number_by true true true true false false e f g h = refl
number_by true true true true false true false f g h = refl
number_by true true true true false true true f g h = refl
number_by true true true false true false e f g h = refl
number_by true true true false true true e false g h = refl
number_by true true true false true true e true false h = refl
number_by true true true false true true e true true h = refl

-- a revision is not both
not_both : (n : ℕ) (three : Bool) → eqb n 3 ≡ three → (three && eqb n 4) ≡ false
not_both n true e = ne_eqb n 4 (λ f. absurd (omega (arith, eqb-true n 3 e)))
not_both n false e = refl

pub number_of_lem : (block : List ℕ) → number_of (verdict block) ≡ first_broken (rules block)
unfolding verdict contents version_fits input_verdict input_by3 input_by4
number_of_lem block =
    number_by (length_fits block) (header_fits block) (eqb (version_of block) 1) (eqb (revision_of block) 3) (eqb (revision_of block) 4) (sum_fits block)
    (digital_fits (input_of block)) (depth_fits (input_of block)) (interface_fits (input_of block)) (not_both (revision_of block) _ refl)

-- ---- the edition of an accepted block

edition_by : (a b c d e f g : Bool) (n : ℕ) (three four : Bool) → eqb n 3 ≡ three → eqb n 4 ≡ four
    → number_of (decided a b c three four d e f g) ≡ 0 → edition_of (decided a b c three four d e f g) ≡ n
edition_by false b c d e f g n three four p q h = absurd (omega arith)
edition_by true false c d e f g n three four p q h = absurd (omega arith)
edition_by true true false d e f g n three four p q h = absurd (omega arith)
edition_by true true true d e f g n false false p q h = absurd (omega arith)
edition_by true true true false e f g n true four p q h = absurd (omega arith)
edition_by true true true true false f g n true four p q h = absurd (omega arith)
edition_by true true true true true f g n true four p q h = sym (eqb-true n 3 p)
edition_by true true true false e f g n false true p q h = absurd (omega arith)
edition_by true true true true e false g n false true p q h = absurd (omega arith)
edition_by true true true true e true false n false true p q h = absurd (omega arith)
edition_by true true true true e true true n false true p q h = sym (eqb-true n 4 q)

pub edition_of_lem : (block : List ℕ) → number_of (verdict block) ≡ 0 → edition_of (verdict block) ≡ revision_of block
unfolding verdict contents version_fits input_verdict input_by3 input_by4
edition_of_lem block h =
    edition_by (length_fits block) (header_fits block) (eqb (version_of block) 1) (sum_fits block)
    (digital_fits (input_of block)) (depth_fits (input_of block)) (interface_fits (input_of block)) (revision_of block) _ _ refl refl h

pub judged : (block : List ℕ) (v : Verdict) → v ≡ verdict block → Judged block v
judged block v e =
    record {
      verdict_given = e;
      number_given_lem = ap number_of e ∙ number_of_lem block;
      edition_given = λ h. ap edition_of e ∙ edition_of_lem block (sym (ap number_of e) ∙ h);
    }

-- ---- when each number is given

given_by : (a b c d e f g : Bool) → Given (first_broken ((30, a) ∷ (31, b) ∷ (32, c) ∷ (33, d) ∷ (34, e) ∷ (35, f) ∷ (36, g) ∷ [])) a b c d e f g
given_by false b c d e f g = record { accepted_0 = refl; length_30 = refl; header_31 = refl; version_32 = refl; sum_33 = refl; digital_34 = refl; depth_35 = refl; interface_36 = refl }
given_by true false c d e f g = record { accepted_0 = refl; length_30 = refl; header_31 = refl; version_32 = refl; sum_33 = refl; digital_34 = refl; depth_35 = refl; interface_36 = refl }
given_by true true false d e f g = record { accepted_0 = refl; length_30 = refl; header_31 = refl; version_32 = refl; sum_33 = refl; digital_34 = refl; depth_35 = refl; interface_36 = refl }
given_by true true true false e f g = record { accepted_0 = refl; length_30 = refl; header_31 = refl; version_32 = refl; sum_33 = refl; digital_34 = refl; depth_35 = refl; interface_36 = refl }
given_by true true true true false f g = record { accepted_0 = refl; length_30 = refl; header_31 = refl; version_32 = refl; sum_33 = refl; digital_34 = refl; depth_35 = refl; interface_36 = refl }
given_by true true true true true false g = record { accepted_0 = refl; length_30 = refl; header_31 = refl; version_32 = refl; sum_33 = refl; digital_34 = refl; depth_35 = refl; interface_36 = refl }
given_by true true true true true true false = record { accepted_0 = refl; length_30 = refl; header_31 = refl; version_32 = refl; sum_33 = refl; digital_34 = refl; depth_35 = refl; interface_36 = refl }
given_by true true true true true true true = record { accepted_0 = refl; length_30 = refl; header_31 = refl; version_32 = refl; sum_33 = refl; digital_34 = refl; depth_35 = refl; interface_36 = refl }

-- each number exactly when its own rule is the first that is broken
pub exactly : (block : List ℕ) →
    Given (number_of (verdict block)) (length_fits block) (header_fits block) (version_fits block) (sum_fits block) (digital_rule block) (depth_rule block) (interface_rule block)
exactly block =
    rw (number_of_lem block) (given_by (length_fits block) (header_fits block) (version_fits block) (sum_fits block) (digital_rule block) (depth_rule block) (interface_rule block))

-- ---- an accepted block

-- a rule for one revision, and for digital inputs alone
kept_by : (applies digital test : Bool) → only_for applies (pick digital test true) ≡ true → applies ≡ true → digital ≡ true → test ≡ true
kept_by true true test h a d = h
kept_by true false test h a d = absurd (true≢false (sym d))
kept_by false digital test h a d = absurd (true≢false (sym a))

fits_by : (applies digital test : Bool) → (applies ≡ true → digital ≡ true → test ≡ true) → only_for applies (pick digital test true) ≡ true
fits_by true true test h = h refl refl
fits_by true false test h = refl
fits_by false digital test h = refl

one_of : (a b : Bool) → (a || b) ≡ true → (a ≡ true) ⊎ (b ≡ true)
one_of true b h = inl refl
one_of false b h = inr h

or_true : (a b : Bool) → (a ≡ true) ⊎ (b ≡ true) → (a || b) ≡ true
or_true true b h = refl
or_true false b h = ⊎_elim (λ e. absurd (true≢false (sym e))) (λ e. e) h

pub accepted_keeps : (block : List ℕ) → number_of (verdict block) ≡ 0 → Keeps block
unfolding version_fits digital_fits depth_fits interface_fits
accepted_keeps block h =
    let all = sym (exactly block).accepted_0 ∙ eq-eqb _ _ h in
    let size = both (length_fits block) _ all in
    let header = both (header_fits block) _ size.1 in
    let version = both (version_fits block) _ header.1 in
    let sum = both (sum_fits block) _ version.1 in
    let digital = both (digital_rule block) _ sum.1 in
    let depth = both (depth_rule block) _ digital.1 in
    let bytes = both (eqb (version_of block) 1) _ version.0 in
    record {
      framed = framed block size.0 header.0 sum.0;
      version = eqb-true _ _ bytes.0;
      revision = ⊎_elim (λ e. inl (eqb-true (revision_of block) 3 e)) (λ e. inr (eqb-true (revision_of block) 4 e)) (one_of _ _ bytes.1);
      digital = λ r d. eqb-true _ _ (kept_by _ _ _ digital.0 (eq-eqb _ _ r) d);
      depth = λ r d. ltb-true _ _ (kept_by _ _ _ depth.0 (eq-eqb _ _ r) d);
      interface = λ r d. ltb-true _ _ (kept_by _ _ _ depth.1 (eq-eqb _ _ r) d);
    }

pub keeps_accepted : (block : List ℕ) → Keeps block → number_of (verdict block) ≡ 0
unfolding version_fits digital_fits depth_fits interface_fits
keeps_accepted block k =
    let f = framed_fits block k.framed in
    let revision : (eqb (revision_of block) 3 || eqb (revision_of block) 4) ≡ true =
    or_true _ _ (⊎_elim (λ e. inl (eq-eqb (revision_of block) 3 e)) (λ e. inr (eq-eqb (revision_of block) 4 e)) k.revision) in
    let digital : digital_rule block ≡ true = fits_by _ _ _ (λ r d. eq-eqb _ _ (k.digital (eqb-true _ _ r) d)) in
    let depth : depth_rule block ≡ true = fits_by _ _ _ (λ r d. lt-ltb _ _ (k.depth (eqb-true _ _ r) d)) in
    let interface : interface_rule block ≡ true = fits_by _ _ _ (λ r d. lt-ltb _ _ (k.interface (eqb-true _ _ r) d)) in
    eqb-true _ _ ((exactly block).accepted_0 ∙ rw (f.size, f.header, f.sum, eq-eqb _ _ k.version, revision, digital, depth, interface))

-- an accepted block has 128 bytes
pub accepted_length : (block : List ℕ) → number_of (verdict block) ≡ 0 → length block ≡ 128
accepted_length block h = (accepted_keeps block h).framed.size
