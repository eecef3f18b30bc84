-- Which EDID base blocks are accepted, and the number that refuses the others (document 02, Wishes 7 and 8): E-EDID 1.3 and 1.4. The
-- revision selects the rule for byte 20.
use Rattle.std.specs.Prelude.{ℕ, ◌/◌, ◌%◌, ◌<◌, ◌≡◌, ◌⊎◌, Bool, true, not, ◌&&◌, ◌||◌, List, [], ◌∷◌, eqb, ltb}
use Rattle.bits.specs.Byte.{pick, bit}
use Rattle.edid_check.specs.Block.{byte_at, length_fits, header_fits, sum_fits, Framed, first_broken}
use Rattle.edid_check.specs.declared.Edition.{Edition}
use Rattle.edid_check.specs.declared.Edition.TheVariants.{Revision3, Revision4}
use Rattle.edid_check.specs.declared.Verdict.{Verdict}
use Rattle.edid_check.specs.declared.Verdict.TheVariants.{Accepted, Length, Header, Version, Sum, Digital, Depth, Interface}

-- bytes 18, 19 and 20
abbrev pub version_of : List ℕ → ℕ
version_of block = byte_at block 18

abbrev pub revision_of : List ℕ → ℕ
revision_of block = byte_at block 19

abbrev pub input_of : List ℕ → ℕ
input_of block = byte_at block 20

-- version 1, revision 3 or 4
unfoldable pub version_fits : List ℕ → Bool
version_fits block = eqb (version_of block) 1 && (eqb (revision_of block) 3 || eqb (revision_of block) 4)

-- ---- byte 20: bit 7 tells a digital input; of an analogue one nothing is asked

-- revision 3: bits 6 to 1 are zero
unfoldable pub digital_fits : ℕ → Bool
digital_fits input = pick (bit 7 input) (eqb (input / 2 % 64) 0) true

-- revision 4: bits 6 to 4 are the colour depth, of which 7 is reserved
unfoldable pub depth_fits : ℕ → Bool
depth_fits input = pick (bit 7 input) (ltb (input / 16 % 8) 7) true

-- revision 4: bits 3 to 0 are the interface, of which 0 to 5 are defined
unfoldable pub interface_fits : ℕ → Bool
interface_fits input = pick (bit 7 input) (ltb (input % 16) 6) true

unfoldable pub input_by3 : ℕ → Verdict
input_by3 input = pick (digital_fits input) (Accepted Revision3) Digital

unfoldable pub input_by4 : ℕ → Verdict
input_by4 input = pick (depth_fits input) (pick (interface_fits input) (Accepted Revision4) Interface) Depth

-- the revision selects the rule
unfoldable pub input_verdict : ℕ → ℕ → Verdict
input_verdict revision input = pick (eqb revision 3) (input_by3 input) (input_by4 input)

-- ---- the whole block

-- version, sum and byte 20, in that order
unfoldable pub contents : List ℕ → Verdict
contents block =
    pick (version_fits block) (pick (sum_fits block) (input_verdict (revision_of block) (input_of block)) Sum) Version

-- length and header come before them
unfoldable pub verdict : List ℕ → Verdict
verdict block = pick (length_fits block) (pick (header_fits block) (contents block) Header) Length

-- the number of each case
abbrev pub number_of : Verdict → ℕ
number_of (Accepted edition) = 0
number_of Length = 30
number_of Header = 31
number_of Version = 32
number_of Sum = 33
number_of Digital = 34
number_of Depth = 35
number_of Interface = 36

-- the revision of an accepted block; a refused one has none, told by 0
abbrev pub edition_of : Verdict → ℕ
edition_of (Accepted Revision3) = 3
edition_of (Accepted Revision4) = 4
edition_of Length = 0
edition_of Header = 0
edition_of Version = 0
edition_of Sum = 0
edition_of Digital = 0
edition_of Depth = 0
edition_of Interface = 0

-- a rule for one revision only: kept wherever it does not apply
abbrev pub only_for : Bool → Bool → Bool
only_for applies kept = pick applies kept true

abbrev pub digital_rule : List ℕ → Bool
digital_rule block = only_for (eqb (revision_of block) 3) (digital_fits (input_of block))

abbrev pub depth_rule : List ℕ → Bool
depth_rule block = only_for (eqb (revision_of block) 4) (depth_fits (input_of block))

abbrev pub interface_rule : List ℕ → Bool
interface_rule block = only_for (eqb (revision_of block) 4) (interface_fits (input_of block))

-- the rules in the order of checking
abbrev pub rules : List ℕ → List (ℕ × Bool)
rules block =
    (30, length_fits block) ∷ (31, header_fits block) ∷ (32, version_fits block) ∷ (33, sum_fits block)
    ∷ (34, digital_rule block) ∷ (35, depth_rule block) ∷ (36, interface_rule block) ∷ []

-- what the check says of a block, and in the wishes' numbers: that of the first rule which the block breaks; of an accepted
-- block its revision
pub record Judged (block : List ℕ) (v : Verdict) : Type 0 where
  pub verdict_given : v ≡ verdict block
  pub number_given_lem : number_of v ≡ first_broken (rules block)
  pub edition_given : number_of v ≡ 0 → edition_of v ≡ revision_of block

-- when each number is given, over the tests of the rules: its own rule is broken, and those before it are kept
pub record Given (number : ℕ) (size header version sum digital depth interface : Bool) : Type 0 where
  pub accepted_0 : eqb number 0 ≡ (size && (header && (version && (sum && (digital && (depth && interface))))))
  pub length_30 : eqb number 30 ≡ not size
  pub header_31 : eqb number 31 ≡ (size && not header)
  pub version_32 : eqb number 32 ≡ (size && (header && not version))
  pub sum_33 : eqb number 33 ≡ (size && (header && (version && not sum)))
  pub digital_34 : eqb number 34 ≡ (size && (header && (version && (sum && not digital))))
  pub depth_35 : eqb number 35 ≡ (size && (header && (version && (sum && (digital && not depth)))))
  pub interface_36 : eqb number 36 ≡ (size && (header && (version && (sum && (digital && (depth && not interface))))))

-- ---- the same without tests

-- all that is asked of a block
pub record Keeps (block : List ℕ) : Type 0 where
  pub framed : Framed block
  pub version : version_of block ≡ 1
  pub revision : (revision_of block ≡ 3) ⊎ (revision_of block ≡ 4)
  pub digital : revision_of block ≡ 3 → bit 7 (input_of block) ≡ true → input_of block / 2 % 64 ≡ 0
  pub depth : revision_of block ≡ 4 → bit 7 (input_of block) ≡ true → input_of block / 16 % 8 < 7
  pub interface : revision_of block ≡ 4 → bit 7 (input_of block) ≡ true → input_of block % 16 < 6
