-- The fourteen wishes of document 02: what each promises, as a statement in full, in the order of the paper. What the code returns is the
-- contract of its functions; these are the statements about the definitions that the contracts cite.
use Prim.Native.Nat.{ℕ, ◌+◌, ◌*◌, ◌-◌, ◌/◌, ◌%◌, ◌<◌, ◌≤◌}
use mathlib.Core.Path.{◌≡◌}
use mathlib.Core.Bool.{Bool, true, false, not, ◌&&◌, ◌||◌}
use mathlib.Core.List.{List, [], ◌∷◌, ◌++◌, map}
use lib.Dec.{eqb, ltb}
use lib.Ieee.{Float}
use lib.ListN.{length, take, get_or}
use Rattle.bits.specs.Byte.{bit, pick}
use Rattle.registers.specs.Table as register
use Rattle.registers.proofs.Rules as registers
use Rattle.events.specs.Word.{decode}
use Rattle.events.specs.Decoded.{Decoded}
use Rattle.bus.specs.declared.Mode.TheVariants.{Ddc2b}
use Rattle.bus.specs.Bus.{is_own}
use Rattle.bus_ddc2b.specs.Ddc2b.{compared}
use Rattle.chip.specs.declared.Chip.{Chip}
use Rattle.chip.specs.State.{mode_of}
use Rattle.chip_well_formed.specs.WellFormed.{well_formed}
use Rattle.chip_events.specs.Outcome.{next}
use Rattle.step.specs.Step.{step}
use Rattle.list_call.specs.Run.{advanced, advanced_answers, after, answers, run, run_answers}
use Rattle.chip_flag_laws.specs.Causes.{raises}
use Rattle.chip_flag_laws.specs.Causes.Source.{AddressMatch}
use Rattle.recording_blocks.specs.Bytes.{Bytes}
use Rattle.recording_blocks.specs.Block.{block_words, refusal}
use Rattle.recording_parts.specs.Recording.{blocks_of, joined, numbered, read_number, read_words, recording_of}
use Rattle.recording_parts.proofs.Round as recording
use Rattle.recording_replay.specs.Replay.{block_answers, last_answer, number_from, words_from}
use Rattle.recording_replay.proofs.Recordings as replay
use Rattle.bus_transfer_laws.specs.Transfers.{Holding, write_data, put_sda, raise_scl, lower_scl, clock_in}
use Rattle.chip_rule_laws.specs.Acknowledge.{InNinth, lasts, txak}
use Rattle.chip_rule_laws.proofs.Acknowledge as acknowledge
use Rattle.why_last_set.specs.LastSet.{Source}
use Rattle.why_reasons.specs.declared.Reason.{Reason}
use Rattle.why_reasons.specs.Explain.{reason_of, why, why_number}
use Rattle.why_laws.specs.Due.{Due}
use Rattle.why_laws.proofs.Reasons as reason
use Rattle.why_laws.proofs.Numbers as reasons
use Rattle.cpu_opcodes.specs.Opcodes as opcode
use Rattle.cpu_opcodes.proofs.Rules as opcodes
use Rattle.cpu_operations.specs.declared.Cpu.{Cpu}
use Rattle.firmware_machine.specs.Machine.{Machine}
use Rattle.firmware_machine.specs.Run.{firmware, is_well_formed, not_run, runs}
use Rattle.firmware_laws.specs.Refused.{RunNumber}
use Rattle.firmware_laws.specs.Refusals.{machine_past, refused_past, turn_number}
use Rattle.firmware_laws.proofs.Calls as firmware-call
use Rattle.firmware_laws.proofs.Numbers as firmware-number
use Rattle.firmware_laws.proofs.Refusals as firmware-refusal
use Rattle.isolation_laws.specs.Foreign.{Begun, Trace, alike, compared_answers, compared_state, equal_throughout, observer_of, permitted, throughout}
use Rattle.isolation_laws.proofs.Theorems as isolation
use Rattle.firmware_isolation_laws.specs.Trace.{events_of, trace}
use Rattle.firmware_isolation_laws.specs.Transfers.{RunsAgree}
use Rattle.firmware_isolation_laws.specs.Words.{is_foreign_list, is_unaddressed, keeps_address}
use Rattle.firmware_isolation_laws.proofs.Words as firmware-words
use Rattle.sync6862.specs.declared.Counters.{Counters}
use Rattle.sync6862.specs.declared.Call.{Call}
use Rattle.sync6862.specs.Unit as unit
use Rattle.sync6862.proofs.Numbers as unit-number
use Rattle.sync6862_laws.specs.Counting as counting
use Rattle.sync6862_laws.proofs.Since as since
use Rattle.rates.specs.Hertz.{Between, field_hz}
use Rattle.std.specs.Prelude.{Ok}
use Rattle.rates.specs.declared.Rate.TheVariants.{FieldRate}
use Rattle.rates6862.specs.Report.{field_report, lowest}
use Rattle.rates6862.proofs.Cases as rate
use Rattle.edid_check.specs.Block.{header_fits, length_fits, sum_fits}
use Rattle.edid_check.specs.Edid as edid
use Rattle.edid_check.proofs.Exactly as edid-number
use Rattle.edid_feed_laws.specs.Observer as feed
use Rattle.edid_feed_laws.specs.Levels.{bytes_written, level_at, levels_put}
use Rattle.edid_feed_laws.proofs.Theorems as feeding
use Rattle.chip_hold_laws.specs.Stretching as hold
use Rattle.chip_hold_laws.proofs.Stretching as holds
use Rattle.vcd_codes.specs.Codes.{Variable, find}
use Rattle.vcd.specs.Call.{trace_of}
use Rattle.vcd_grammar_laws.specs.Words.{Spells}
use Rattle.vcd_grammar_laws.specs.Body.{Item, body_words, Means, Accepted}
use Rattle.vcd_grammar_laws.specs.Header.{Section, dump_words, Declares}
use Rattle.vcd_grammar_laws.proofs.Header as dump
use Rattle.std.specs.Prelude.{None}
use Rattle.plain_bus.specs.Plain.{addresses, changes_to_stop}
use Rattle.plain_bus.specs.Reading as plain
use Rattle.plain_bus.specs.Numbers.{Exactly}
use Rattle.plain_bus.proofs.Numbers as plain-number
use Rattle.plain_bus_laws.specs.Stepping.{Begins, completed_by}
use Rattle.plain_bus_laws.proofs.Agree as plain-bus
use Rattle.chip_count_laws.specs.Counting.{never}
use Rattle.bus_address_laws.specs.Addressed as addressed
use Rattle.bus_address_laws.proofs.Addressed as address
use Rattle.state_bytes.specs.Layout.{bytes_of}
use Rattle.state_bytes.proofs.Round as bytes
use Rattle.state_area.specs.Area.{loaded, holds, number_in, state_in}
use Rattle.state_calls.specs.Calls.{holds_state, step_area, step_answer}
use Rattle.state_laws.specs.Bytes.{WrittenAsNone}
use Rattle.state_laws.proofs.Stays as area
use Rattle.state_laws.proofs.Refusals as area-number

-- ---- Wish 1: recordings from the capture box

-- writing, then reading, gives the same words
pub recording_read_written : (words : List ℕ) → (read_words 0 (blocks_of (recording_of words)) ≡ words) × (read_number 0 (blocks_of (recording_of words)) ≡ 0)
recording_read_written = recording.read_written

-- every accepted recording is what the writer makes of each block's words, numbered from 0, in at most 65,536 blocks
pub recording_accepted_written : (bytes : List ℕ) → Bytes bytes → read_number 0 (blocks_of bytes) ≡ 0
    → (bytes ≡ joined (numbered 0 (map block_words (blocks_of bytes)))) × (length (blocks_of bytes) ≤ 65536)
recording_accepted_written = recording.accepted_written

-- replaying is the list call on all words joined, then the number of the bad block, if there is one
pub recording_replayed : (c : Chip) (bytes places : List ℕ) → well_formed c ≡ true → length (words_from 0 bytes) ≤ length places
    → (block_answers c 0 bytes ≡ take (length (words_from 0 bytes)) (run_answers c (words_from 0 bytes) places) ++ last_answer (number_from 0 bytes))
    × (advanced c (words_from 0 bytes) ≡ (run c (words_from 0 bytes) places).chip)
recording_replayed c = replay.by_list_call c 0

-- a bad block ends the replay: the answers before it stand, and its number is the last one, with all else zero
pub recording_ended : (c : Chip) (bytes : List ℕ) (good : List (List ℕ)) (bad : List ℕ) (rest : List (List ℕ)) → blocks_of bytes ≡ good ++ (bad ∷ rest)
    → read_number 0 good ≡ 0 → (refusal (length good) bad ≡ 0 → ⊥)
    → block_answers c 0 bytes ≡ advanced_answers c (joined (map block_words good)) ++ (refusal (length good) bad * 16777216 ∷ [])
recording_ended = replay.refused_answers

-- ---- Wish 2: TXAK

-- in the ninth clock of a received byte SDA is free exactly where TXAK stood at 1 when SCL fell for the eighth time, whatever is written later
pub byte_acknowledged : (c : Chip) (byte : ℕ) → byte < 256 → Holding false c → (a b d e f g h i : Bool) (us vs : List ℕ)
    → lasts (advanced c (write_data byte ∷ clock_in (a ∷ b ∷ d ∷ e ∷ f ∷ g ∷ h ∷ []) (put_sda i ∷ raise_scl ∷ []))) us ≡ true
    → lasts (advanced (advanced (advanced c (write_data byte ∷ clock_in (a ∷ b ∷ d ∷ e ∷ f ∷ g ∷ h ∷ []) (put_sda i ∷ raise_scl ∷ []))) us) (lower_scl ∷ [])) vs ≡ true
    → InNinth (txak (advanced (advanced c (write_data byte ∷ clock_in (a ∷ b ∷ d ∷ e ∷ f ∷ g ∷ h ∷ []) (put_sda i ∷ raise_scl ∷ []))) us))
    (advanced (advanced (advanced c (write_data byte ∷ clock_in (a ∷ b ∷ d ∷ e ∷ f ∷ g ∷ h ∷ []) (put_sda i ∷ raise_scl ∷ []))) us) (lower_scl ∷ vs))
byte_acknowledged = acknowledge.received_acknowledged

-- a matched address is acknowledged, whatever TXAK is
pub match_acknowledged : (c : Chip) (e : Decoded) (us vs : List ℕ) → raises AddressMatch c e ≡ true → lasts (next c e) us ≡ true
    → lasts (advanced (advanced (next c e) us) (lower_scl ∷ [])) vs ≡ true → InNinth false (advanced (advanced (next c e) us) (lower_scl ∷ vs))
match_acknowledged = acknowledge.match_acknowledged

-- ---- Wish 3: why the line is up

-- the reason returned is due, and no other is
pub reason_due : (s : Source) (c : Chip) (words : List ℕ) → Due s c words (reason_of s c words)
reason_due = reason.due

pub reason_only : (s : Source) (c : Chip) (words : List ℕ) (r : Reason) → Due s c words r → r ≡ reason_of s c words
reason_only = reason.only

pub reason_refused : (c : Chip) (words : List ℕ) → why_number (why c words) ≡ pick (well_formed c) 0 8
reason_refused = reasons.why_number_lem

-- ---- Wish 4: the write mask as a choice, the same for every address

pub mask_same : (address : ℕ) → register.write_mask address ≡ register.mask_choice address
mask_same = registers.mask_choice_lem

-- ---- Wish 5: the 6502 core

-- 256 entries; the length follows from the mode
pub length_of_mode : (o : ℕ) → o < 256 → opcode.length_of (opcode.entry_of o) ≡ opcode.mode_length (opcode.mode_of (opcode.entry_of o))
length_of_mode = opcodes.length_by_mode

-- 8, then 22, then 7, before anything runs
module _ (c : Cpu) (ram rom : List ℕ) (k : Chip) (events places : List ℕ) (n : ℕ) where
  pub run_ill_formed : is_well_formed c k ≡ false → firmware c ram rom k events places n ≡ not_run 8 c ram k places
  run_ill_formed = firmware-call.ill_formed_lem c ram rom k events places n

  pub run_wrong_rom : is_well_formed c k ≡ true → eqb (length rom) 24576 ≡ false → firmware c ram rom k events places n ≡ not_run 22 c ram k places
  run_wrong_rom = firmware-call.wrong_rom c ram rom k events places n

  pub run_few_places : is_well_formed c k ≡ true → eqb (length rom) 24576 ≡ true → ltb (length places) (length events) ≡ true
      → firmware c ram rom k events places n ≡ not_run 7 c ram k places
  run_few_places = firmware-call.few_places c ram rom k events places n

-- a run that has begun is refused with 20, 21, 5 or 6, or not at all
pub run_refusals : (n first : ℕ) (rom events : List ℕ) (m : Machine) → RunNumber (runs n first rom events m).number
run_refusals = firmware-number.run_number_lem

-- a refused instruction leaves CPU, RAM and chip as before it, its events and interrupt done
pub run_refused : (k n first : ℕ) (rom events : List ℕ) (m : Machine) → k < n → eqb (runs k first rom events m).number 0 ≡ true
    → eqb (turn_number rom (machine_past k first rom events m)) 0 ≡ false → runs n first rom events m ≡ refused_past k first rom events m
run_refused = firmware-refusal.run_refused_at

-- demand 3 for firmware: of the second list only the words are looked at
pub firmware_not_told_apart : (n first : ℕ) (rom : List ℕ) (m : Machine) → well_formed m.chip ≡ true → mode_of m.chip.core ≡ Ddc2b
    → {b : Trace} → Begun m.chip.core.bus.phase b → (events others : List ℕ)
    → is_unaddressed (observer_of m.chip b) (trace n first rom events m) ≡ true  -- no address of this chip, no reset, no read of 14H in the first run
    → events_of (trace n first rom events m) ≡ events  -- which gives all of its events
    → keeps_address (trace n first rom events m) ≡ true  -- and whose CPU does not write II ADR
    → is_foreign_list events (observer_of m.chip b) others ≡ true  -- the same words but for levels of SDA, no address of this chip, SDA moved alike while SCL is high
    → RunsAgree (runs n first rom events m) (runs n first rom others m) (trace n first rom events m) (trace n first rom others m)
firmware_not_told_apart = firmware-words.firmware_runs_words

-- ---- Wish 6: the counters of the NT6862

-- the number of every call; a refused one moves nothing; 23 for a chip that there is not
pub counters_number : (s : Counters) (call : Call) → (unit.given_number (unit.answer s call)) ≡ unit.number_of s call
counters_number = unit-number.number_exact

pub counters_refused : (s : Counters) (call : Call) → ((unit.given_number (unit.answer s call)) ≡ 0 → ⊥) → (unit.left s (unit.answer s call)) ≡ s
counters_refused = unit-number.refused_unmoved

pub counters_fresh : (chip : ℕ) → unit.fresh_number (unit.fresh chip) ≡ pick (eqb chip 6861) 0 (pick (eqb chip 6862) 0 23)
counters_fresh = unit-number.fresh_exact

-- VCNT is the number of clocks, and HCNT that of rises of HSYNCI, since it was last zeroed
pub periods_counted : (s : Counters) (call : Call) (calls : List Call) → unit.well_formed s ≡ true → counting.zeroes_periods s call ≡ true
    → (unit.left s (unit.answer s call)).sync.periods.overflow ≡ false → counting.never counting.zeroes_periods (unit.left s (unit.answer s call)) calls ≡ true
    → counting.period_clocks calls ≤ unit.periods_last (unit.left s (unit.answer s call)).part
    → ((counting.run s (call ∷ calls)).sync.periods.count.0 ≡ counting.period_clocks calls) × ((counting.run s (call ∷ calls)).sync.periods.overflow ≡ false)
periods_counted = since.periods_since

pub lines_counted : (s : Counters) (call : Call) (calls : List Call) → unit.well_formed s ≡ true → counting.zeroes_lines s call ≡ true
    → (unit.left s (unit.answer s call)).sync.lines.overflow ≡ false → counting.never counting.breaks_lines (unit.left s (unit.answer s call)) calls ≡ true
    → counting.hsync_rises (unit.left s (unit.answer s call)).hsynci calls ≤ 4095
    → ((counting.run s (call ∷ calls)).sync.lines.count.0 ≡ counting.hsync_rises (unit.left s (unit.answer s call)).hsynci calls)
    × ((counting.run s (call ∷ calls)).sync.lines.overflow ≡ false)
lines_counted = since.lines_since

-- the field rate of 14 bits lies between 7 and 125,000 Hz: `lowest` of the NT6862 is 7
pub field_rate_between : (s : Counters) (x : Float) → field_report s ≡ Ok (FieldRate x)
    → (x ≡ field_hz s.sync.periods.latch) × Between (lowest s.part) 125000 x
field_rate_between = rate.rate_between

-- ---- Wishes 7 and 8: an EDID block, and DDC1 sending it

-- accepted exactly when all rules hold, and a refusal names the first that fails: 30 to 34, then 35 and 36 by revision 4
pub block_judged : (block : List ℕ)
    → edid.Given (edid.number_of (edid.verdict block)) (length_fits block) (header_fits block) (edid.version_fits block) (sum_fits block)
    (edid.digital_rule block) (edid.depth_rule block) (edid.interface_rule block)
block_judged = edid-number.exactly

pub block_keeps : (block : List ℕ) → edid.number_of (edid.verdict block) ≡ 0 → edid.Keeps block
block_keeps = edid-number.accepted_keeps

pub block_accepted : (block : List ℕ) → edid.Keeps block → edid.number_of (edid.verdict block) ≡ 0
block_accepted = edid-number.keeps_accepted

-- of an accepted block that is fed, the level at load k and the j-th rise after it is bit 7 - j of byte k, whatever comes later
pub block_sent : (c : Chip) → well_formed c ≡ true → (block us vs : List ℕ)
    → feed.throughout (feed.observer_of c) us ≡ true  -- no other write of II DAT, fall of SCL, turning off, change of mode or reset
    → bytes_written (feed.observer_of c) us ≡ take (length (bytes_written (feed.observer_of c) us)) block  -- the bytes written are those of the block, in order
    → (k j : ℕ) → 9 * k + j < length (levels_put (feed.observer_of c) c us) → edid.number_of (edid.verdict block) ≡ 0 → k < 128 → j < 8
    → (length block ≡ 128) × ((level_at (levels_put (feed.observer_of c) c (us ++ vs)) (9 * k + j)).put ≡ bit (7 - j) (get_or block k 0))
block_sent c well block us vs kept bytes k j due = feeding.accepted_put c well block us vs (record { kept = kept; bytes = bytes }) k j due

-- ---- Wish 9: how long SCL is held

-- the clocks since the word that took SCL low, stopping at 65,535, as long as the hold lasts
pub held_since : (c : Chip) (word : ℕ) (words : List ℕ) → hold.takes_scl c (decode word) ≡ true → hold.lasts (next c (decode word)) words ≡ true
    → hold.HeldFor (hold.bounded (hold.periods_given (next c (decode word)) words)) (advanced c (word ∷ words))
held_since = holds.held_since_taken

-- SCL is held after an event exactly where it was taken then, or was held and not let go
pub held_exactly : (c : Chip) (e : Decoded) → well_formed c ≡ true → hold.holds_scl (next c e) ≡ (hold.takes_scl c e || (hold.holds_scl c && not (hold.lets_go c e)))
held_exactly = holds.held_exactly

-- ---- Wish 10: value change dumps

-- a file that spells sections that declare variables, and items that mean event words, is accepted and read as these words
pub dump_read : (ss : List Section) (items : List Item) (file : List ℕ) (picoseconds : ℕ) (variables : List Variable) (words : List ℕ)
    → Spells file (dump_words ss (body_words items)) → Declares 0 [] ss picoseconds variables → 0 < picoseconds
    → Means (find variables) picoseconds 0 0 false items words → Accepted (trace_of file) words
dump_read = dump.dump_read

-- ---- Wish 11: the plain reading of the bus

-- the addresses found by looking at the whole list are those that the stepped chip completes, in their order, up to the stop
pub reading_agrees : (own : ℕ) (c : Chip) → Begins own c → (changes : List ℕ) → plain.first_fault changes ≡ None
    → addresses own changes ≡ completed_by c (take (changes_to_stop own changes) changes)
reading_agrees = plain-bus.agree

pub reading_refused : (own : ℕ) (changes places : List ℕ)
    → Exactly (plain.number_of (plain.reading own changes places)) (plain.first_fault changes) (ltb (length places) (length (addresses own changes)))
reading_refused = plain-number.exactly

-- ---- Wish 12: which address it was

-- until the transfer ends, the outcome of the last address completed, compared with II ADR as it was then
pub outcome_last : (c : Chip) (us : List ℕ) (word : ℕ) (vs : List ℕ) → addressed.completes (advanced c us) (decode word) ≡ true
    → never addressed.ends (next (advanced c us) (decode word)) vs ≡ true
    → addressed.outcome_in (advanced c (us ++ (word ∷ vs))) ≡ compared (advanced c us).core.bus.iiadr (addressed.address_at (advanced c us))
outcome_last = address.compared_last

-- flag A is raised exactly where an address is completed and is A0H, II ADR or both
pub outcome_raises : (c : Chip) (e : Decoded)
    → raises AddressMatch c e ≡ (addressed.completes c e && is_own (compared c.core.bus.iiadr (addressed.address_at c)))
outcome_raises = address.raised_exactly

-- ---- Wish 13: several foreign transfers

module _ (c : Chip) (ddc2b : mode_of c.core ≡ Ddc2b) {t : Trace} (begun : Begun c.core.bus.phase t)  -- a START just seen, or the bus idle
    (words others : List ℕ)
    (same-words : alike words others ≡ true)  -- the same words at the same places, but for levels of SDA
    (for-others : throughout permitted (observer_of c t) words ≡ true)  -- no address of this chip is completed, DDC2B is not left, no reset
    (too : throughout permitted (observer_of c t) others ≡ true)
    (same-at-high : equal_throughout (observer_of c t) (observer_of c t) words others ≡ true)  -- SDA while SCL is high: the same events, from the same level
  where
    pub several_not_told_apart : (compared_answers words (answers c words) ≡ compared_answers others (answers c others)) × (compared_state (after c words) ≡ compared_state (after c others))
    several_not_told_apart =
        let k = isolation.several_transfers c ddc2b begun words others (record { words = same-words; left = for-others; right = too; sda = same-at-high }) in
        (k.answers_agree, k.states_agree)

-- ---- Wish 14: the state as bytes

-- stepping the bytes is stepping the state that they hold
pub bytes_stepped : (area : List ℕ) → holds_state area ≡ true → (word : ℕ) → loaded (step_area area word) ≡ holds (step (state_in area) word).chip
bytes_stepped = area.stepped_holds

-- unequal states have unequal bytes
pub bytes_differ : (c d : Chip) → bytes_of c ≡ bytes_of d → c ≡ d
bytes_differ = bytes.bytes_injective

-- the area is untouched on every refusal
pub bytes_kept : (area : List ℕ) (word : ℕ) → (step_answer area word / 16777216 ≡ 0 → ⊥) → step_area area word ≡ area
bytes_kept = area.refused_untouched

-- 15 for another length, then 8 for bytes that no well formed state is written as
pub bytes_fifteen : (area : List ℕ) → (length area ≡ 128 → ⊥) → number_in area ≡ 15
bytes_fifteen = area-number.fifteen

pub bytes_eight : (area : List ℕ) → length area ≡ 128 → WrittenAsNone area → number_in area ≡ 8
bytes_eight = area-number.eight
