-- Lines of a run, computed. Their text is written by hand from images/README.md.
-- Assumes nothing.
use mathlib.Core.Bool.{false}
use mathlib.Core.Path.{◌≡◌, refl}
use Rattle.hex_digits.specs.Hex.{hex_line}
use Rattle.cpu_arithmetic.specs.declared.Flags.{Flags}
use Rattle.cpu_operations.specs.Operations.{pushed_p}
use Rattle.firmware_lines.specs.Lines.{register_line, instruction_text, idle_text, event_text}
use Rattle.firmware_lines.specs.Worked.{codes, all}

abbrev pub none : Flags
none = record { n = false; v = false; d = false; i = false; z = false; c = false }

pub registers_all : register_line (record { a = 0x9c; x = 0x35; y = 0x62; s = 0xf1; p = all; pc = 0xf0ae; over = 0x1b }) ≡ codes "A=9C X=35 Y=62 S=F1 P=CF PC=F0AE over=1B\n"
unfolding codes register_line pushed_p
registers_all = refl

-- after power up, with a ROM of zeros
pub registers_none : register_line (record { a = 0; x = 0; y = 0; s = 255; p = none; pc = 0; over = 0 }) ≡ codes "A=00 X=00 Y=00 S=FF P=00 PC=0000 over=00\n"
unfolding codes register_line pushed_p
registers_none = refl

pub instruction_shown : instruction_text 0xa0f4 0x6d ≡ codes " A0F4 6D "
unfolding codes instruction_text
instruction_shown = refl

pub idle_shown : idle_text 0xfe3c ≡ codes " FE3C -- "
unfolding codes idle_text
idle_shown = refl

pub event_shown : event_text 0x02000f3a 0x080500cb ≡ codes " event 02000F3A 080500CB\n"
unfolding codes event_text hex_line
event_shown = refl
