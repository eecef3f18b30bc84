-- The comparison of an address over a list of event words (document 02, Wish 12): when it is made and with what, and until when its outcome is kept.
use Rattle.std.specs.Prelude.{ℕ, ◌≡◌, Bool, true, false, not, ◌&&◌, ◌||◌, List, [], ◌∷◌, ◌++◌, ltb}
use Rattle.bits.specs.Byte.{pick, bit}
use Rattle.registers.specs.Names.{MDCON, IISTS, MD12, ENDDC}
use Rattle.events.specs.Pins as pin
use Rattle.events.specs.Decoded.{Decoded}
use Rattle.events.specs.Word.{decode}
use Rattle.bus.specs.declared.Comparison.{Comparison}
use Rattle.bus.specs.declared.Comparison.TheVariants.{None}
use Rattle.bus.specs.declared.Phase.{Phase}
use Rattle.bus.specs.declared.Phase.TheVariants.{Idle, Address, Addressed, Ignoring, Receive, Transmit, Held}
use Rattle.bus.specs.Bus.{line, pulls_sda, compared_in, on_address}
use Rattle.bus_ddc2b.specs.Ddc2b.{compared, gathered}
use Rattle.chip.specs.declared.Chip.{Chip}
use Rattle.chip_events.specs.Outcome.{next}
use Rattle.list_call.specs.Run.{advanced}
use Rattle.chip_flag_laws.specs.Causes.{put_high, put_low, ddc_on, in_ddc1, in_ddc2b, scl_free, rises_scl, falls_scl}
use Rattle.chip_count_laws.specs.Counting.{resets, writes, never}

-- the outcome that the state keeps
abbrev pub outcome_in : Chip → Comparison
outcome_in c = compared_in c.core.bus.phase

-- ---- an address is completed

-- the level of the SDA line in DDC2B
abbrev pub sda_level : Chip → Bool
sda_level c = line (pulls_sda c.core.bus.phase) c.core.sda

-- in DDC2B the SCL line rises: the chip takes the level of the SDA line
unfoldable pub takes_level : Chip → Decoded → Bool
takes_level c e = rises_scl c e && in_ddc2b c

-- seven bits of an address are gathered (no well formed one has more)
abbrev pub awaits_eighth : Phase → Bool
awaits_eighth = on_address false (λ count bits. not (ltb count 7))

-- the bits of an address gathered so far
abbrev pub address_so_far : Phase → ℕ
address_so_far Idle = 0
address_so_far (Address count bits) = bits
address_so_far (Addressed matched bits ninth) = bits
address_so_far Ignoring = 0
address_so_far (Receive matched count bits) = 0
address_so_far (Transmit matched count byte) = 0
address_so_far (Held matched clocks) = 0

-- the rise that brings the eighth bit of an address, and the byte that it completes
abbrev pub completes : Chip → Decoded → Bool
completes c e = takes_level c e && awaits_eighth c.core.bus.phase

abbrev pub address_at : Chip → ℕ
address_at c = gathered (address_so_far c.core.bus.phase) (sda_level c)

-- ---- a transfer ends

-- edges of the SDA line in DDC2B while the SCL line is high, RESET being high: the line follows its outside level unless the chip pulls it
abbrev pub sda_free : Chip → Bool
sda_free c = not (pulls_sda c.core.bus.phase)

abbrev pub scl_high : Chip → Bool
scl_high c = in_ddc2b c && (c.core.scl && scl_free c)

-- START, a repeated one too
abbrev pub starts : Chip → Decoded → Bool
starts c e = put_low pin.SDA e && (c.core.reset && ((c.core.sda && sda_free c) && scl_high c))

abbrev pub stops : Chip → Decoded → Bool
stops c e = put_high pin.SDA e && (c.core.reset && ((not c.core.sda && sda_free c) && scl_high c))

-- a change of mode: ENDDC of II STS written other than it is, MD1/2 of MDCON written other than it is with DDC on, and in DDC1 a fall of SCL
abbrev pub turns_mode : Chip → Decoded → Bool
turns_mode c e =
    writes IISTS ENDDC (not (bit ENDDC c.core.bus.iists)) c e
    || ((writes MDCON MD12 (not (bit MD12 c.core.mdcon)) c e && ddc_on c)
    || (falls_scl c e && in_ddc1 c))

unfoldable pub ends : Chip → Decoded → Bool
ends c e = starts c e || (stops c e || (turns_mode c e || resets c e))

-- the outcome after an event, by that before it: compared where an address is completed, with II ADR as it is then; none where the transfer ends; else as it was
abbrev pub compared_by : Chip → Decoded → Comparison → Comparison
compared_by c e before = pick (completes c e) (compared c.core.bus.iiadr (address_at c)) (pick (ends c e) None before)

-- ---- over a list of words

-- an address is completed or the transfer ends
abbrev pub moves : Chip → Decoded → Bool
moves c e = completes c e || ends c e

-- where the word w completes an address and none after it ends the transfer, the outcome is that of this address, compared with II ADR as it was then
abbrev pub LastAddress : Chip → List ℕ → ℕ → List ℕ → Type 0
LastAddress c us w vs =
    completes (advanced c us) (decode w) ≡ true → never ends (next (advanced c us) (decode w)) vs ≡ true →
    outcome_in (advanced c (us ++ (w ∷ vs))) ≡ compared (advanced c us).core.bus.iiadr (address_at (advanced c us))

-- the levels that the chip takes at the rises of the SCL line, the first first
abbrev pub levels_taken : Chip → List ℕ → List Bool
levels_taken c [] = []
levels_taken c (w ∷ ws) = pick (takes_level c (decode w)) (sda_level c ∷ levels_taken (next c (decode w)) ws) (levels_taken (next c (decode w)) ws)

-- a byte from its levels, the first on top, after these bits
abbrev pub gathered_all : ℕ → List Bool → ℕ
gathered_all bits [] = bits
gathered_all bits (level ∷ levels) = gathered_all (gathered bits level) levels
