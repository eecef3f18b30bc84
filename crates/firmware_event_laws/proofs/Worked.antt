-- Lines and lists, computed from their text. What they mean is worked by hand from images/README.md.
-- Assumes nothing.
use Prim.Native.Nat.{ℕ}
use Rattle.std.specs.Prelude.{None, Some}
use mathlib.Core.Path.{◌≡◌, refl}
use mathlib.Core.List.{[], ◌∷◌}
use Rattle.firmware_event_lines.specs.Lines.{nothing, malformed, letter_of, symbol_of, number_grown, word_grown, word_ended, line_start, read_on}
use Rattle.firmware_event_list.specs.Lists.{one_more, line_ended, checked_byte, checked_on, ends_well, found_as, found_on}
use Rattle.firmware_event_laws.specs.Calls.{calls_from, calls_on, found_in}
use Rattle.firmware_event_laws.specs.Worked.{codes, means, told, event}

-- a proof that names this on its `unfolding` line computes lines and lists
unfoldable opened : ℕ
unfolding codes letter_of symbol_of number_grown word_grown word_ended read_on one_more line_ended checked_byte checked_on ends_well found_on calls_from calls_on
opened = 0

-- ---- a line

-- number and word, digits of either case, leading zeros
pub plain_line : means "12 0400000f" ≡ event 12 0x0400000f
unfolding opened
plain_line = refl

pub upper_case : means "0 89ABCDEF" ≡ event 0 0x89abcdef
unfolding opened
upper_case = refl

pub lower_case : means "007 89abcdef" ≡ event 7 0x89abcdef
unfolding opened
lower_case = refl

-- the largest of both, and one more
pub largest : means "4294967295 FFFFFFFF" ≡ event 4294967295 0xffffffff
unfolding opened
largest = refl

pub too_large : means "4294967296 00000000" ≡ malformed
unfolding opened
too_large = refl

-- blanks around and between; the CR of a line that ends in CR and LF
pub blanks : means "\t 5 \t 01000600 \t " ≡ event 5 0x01000600
unfolding opened
blanks = refl

pub carriage_return : means "5 01000600\r" ≡ event 5 0x01000600
unfolding opened
carriage_return = refl

-- comments, close behind the word too
pub comment : means "5 01000600# a read" ≡ event 5 0x01000600
unfolding opened
comment = refl

pub comment_alone : means " # 5 01000600" ≡ nothing
unfolding opened
comment_alone = refl

pub empty_line : means "" ≡ nothing
unfolding opened
empty_line = refl

pub blank_line : means " \t\r" ≡ nothing
unfolding opened
blank_line = refl

-- a number alone, a word alone, seven and nine digits, a third token
pub number_alone : means "5" ≡ malformed
unfolding opened
number_alone = refl

pub number_commented : means "5 # 01000600" ≡ malformed
unfolding opened
number_commented = refl

pub word_alone : means "0100060F" ≡ malformed
unfolding opened
word_alone = refl

pub seven_digits : means "5 1000600" ≡ malformed
unfolding opened
seven_digits = refl

pub nine_digits : means "5 001000600" ≡ malformed
unfolding opened
nine_digits = refl

pub third_token : means "5 01000600 1" ≡ malformed
unfolding opened
third_token = refl

-- no digit: the bytes beside the ranges, a sign, a vertical tab
pub beside_digits : means "5 0100060/" ≡ malformed
unfolding opened
beside_digits = refl

pub behind_digits : means "5 0100060:" ≡ malformed
unfolding opened
behind_digits = refl

pub beside_upper : means "5 0100060@" ≡ malformed
unfolding opened
beside_upper = refl

pub behind_upper : means "5 0100060G" ≡ malformed
unfolding opened
behind_upper = refl

pub beside_lower : means "5 0100060`" ≡ malformed
unfolding opened
beside_lower = refl

pub behind_lower : means "5 0100060g" ≡ malformed
unfolding opened
behind_lower = refl

pub hex_number : means "a 01000600" ≡ malformed
unfolding opened
hex_number = refl

pub signed_number : means "-5 01000600" ≡ malformed
unfolding opened
signed_number = refl

pub vertical_tab : means "5\u{b}01000600" ≡ malformed
unfolding opened
vertical_tab = refl

-- ---- a list

-- the first malformed line is told with its number; the end of the text ends the last line
pub nothing_told : told "# a list\n\n0 01000600\r\n 7 04000000" ≡ None
unfolding opened
nothing_told = refl

pub second_told : told "0 01000600\n7\n8" ≡ Some 2
unfolding opened
second_told = refl

pub third_told : told "0 01000600\n# 7\n8 0400000" ≡ Some 3
unfolding opened
third_told = refl

pub none_behind : told "" ≡ None
unfolding opened
none_behind = refl

pub last_told : told "0 01000600\n\n8\n" ≡ Some 3
unfolding opened
last_told = refl

-- the first line that means something, and the place behind it; nothing where a line has not ended
pub first_found : found_on line_start 0 (codes "# a\n\n5 01000600\n7 04000000\n") ≡ found_as line_start 16 (event 5 0x01000600)
unfolding opened
first_found = refl

pub malformed_found : found_on line_start 0 (codes "\n5\n7 04000000\n") ≡ found_as line_start 3 malformed
unfolding opened
malformed_found = refl

pub not_ended : (found_on line_start 4 (codes "\n5 01000600")).meaning ≡ nothing
unfolding opened
not_ended = refl

-- blocks that end in a comment, a number and a word, the last one empty; no newline at the end
pub blocks_found : found_in (codes "# a l" ∷ codes "ist\n\n1" ∷ codes "2 01000600\r\n7 0400" ∷ codes "0000" ∷ [] ∷ []) ≡ event 12 0x01000600 ∷ event 7 0x04000000 ∷ []
unfolding opened
blocks_found = refl

pub malformed_between : found_in (codes "5 01000600\n6 0" ∷ codes "\n7 04000000" ∷ []) ≡ event 5 0x01000600 ∷ malformed ∷ event 7 0x04000000 ∷ []
unfolding opened
malformed_between = refl
