-- Two firmware calls on the same bytes through transfers to other devices agree (document 02, Wishes 5 and 14).
use Prim.Native.Nat.{ℕ, ◌<◌}
use mathlib.Core.Path.{◌≡◌, refl, ap, ap₂, sym, ◌∙◌}
use mathlib.Core.Bool.{Bool, true, false, ◌&&◌}
use mathlib.Core.List.{List, [], ◌∷◌}
use lib.Dec.{eqb, ltb}
use lib.ListN.{length, length-set}
use borrow.Author.Tests.{eq-eqb, ltb-true}
use Rattle.bits.proofs.Finite.{both as both_true}
use Rattle.registers.specs.Table.{resets}
use Rattle.events.specs.Decoded.{Decoded}
use Rattle.bus.specs.declared.Mode.TheVariants.{Ddc2b}
use Rattle.chip.specs.declared.Chip.{Chip}
use Rattle.chip.specs.declared.Kept.{Kept}
use Rattle.chip.specs.declared.Kept.TheVariants.{Same, Stored, Reset}
use Rattle.chip.specs.State.{mode_of, keep}
use Rattle.chip_well_formed.specs.WellFormed.{well_formed}
use Rattle.chip_events.specs.Outcome.{next, kept_after}
use Rattle.isolation_laws.specs.Foreign.{Trace, observer_of, Begun, compared_state}
use Rattle.cpu_operations.specs.declared.Cpu.{Cpu}
use Rattle.firmware_machine.specs.Machine.{Machine, machine}
use Rattle.firmware_machine.specs.Run.{runs, called, is_well_formed, firmware, Called}
use Rattle.state_bytes.specs.Layout.{bytes_of}
use Rattle.state_area.specs.Area.{holds, chip_of, number_in, state_in}
use Rattle.state_area.proofs.Accepted.{load_written, loaded_well, loaded_registers}
use Rattle.firmware_laws.specs.History.{Given, event_of, chip_after, history}
use Rattle.firmware_laws.specs.Refused.{write_only_lem, read_only, not_documented, not_mapped, RunNumber, none, refusal}
use Rattle.firmware_laws.proofs.Numbers.{run_number_lem}
use Rattle.firmware_laws.proofs.Clocks.{run_counted, run_well_formed}
use Rattle.firmware_laws.proofs.Calls.{is_run}
use Rattle.firmware_isolation_laws.specs.Trace.{Entry, trace, events_of}
use Rattle.firmware_isolation_laws.specs.Transfers.{ForeignLists, CallsAgree}
use Rattle.firmware_isolation_laws.specs.Words.{is_unaddressed, keeps_address, is_foreign_list}
use Rattle.firmware_isolation_laws.proofs.Runs.{firmware_calls_listed}
use Rattle.firmware_isolation_laws.proofs.Words.{firmware_calls_words}
use Rattle.firmware_capi.specs.Call.{cpu_of, cpu_bytes, Left, left, has_begun, counts_of, left_by, run_in, are_sized, firmware_in}
use Rattle.firmware_capi_laws.specs.Bytes.{BytesAgree}

-- ---- the state that a run leaves is read from its bytes again

kept_length : (k : Kept) (l : List ℕ) → length l ≡ 38 → length (keep k l) ≡ 38
unfolding resets
kept_length Same l h = h
kept_length (Stored a b) l h = length-set l a b ∙ h
kept_length Reset l h = refl

next_length : (k : Chip) (e : Decoded) → length k.registers ≡ 38 → length (next k e).registers ≡ 38
unfolding next
next_length k e h = kept_length (kept_after k e) k.registers h

after_length : (k : Chip) (s : List Given) → length k.registers ≡ 38 → length (chip_after k s).registers ≡ 38
after_length k [] h = h
after_length k (g ∷ s) h = after_length (next k (event_of g)) s (next_length k (event_of g) h)

run_read : (n : ℕ) (rom es : List ℕ) (m : Machine) → is_well_formed m.cpu m.chip ≡ true → length m.chip.registers ≡ 38
    → state_in (bytes_of (runs n 0 rom es m).machine.chip) ≡ (runs n 0 rom es m).machine.chip
run_read n rom es m w h =
    let e = (runs n 0 rom es m).machine in
    let over = ltb-true m.cpu.over 32 (both_true (ltb m.cpu.over 32) (well_formed m.chip) w).0 in
    let size : length e.chip.registers ≡ 38 = ap (λ (k : Chip). length k.registers) (sym (run_counted n 0 rom es m over).chip) ∙ after_length m.chip (history n 0 rom es m) h in
    let well = (both_true (ltb e.cpu.over 32) (well_formed e.chip) (run_well_formed n 0 rom es m w)).1 in
    ap chip_of (load_written e.chip size well)

begun_by : {n : ℕ} → RunNumber n → has_begun n ≡ true
unfolding has_begun
begun_by none = refl
begun_by (refusal write_only_lem) = refl
begun_by (refusal read_only) = refl
begun_by (refusal not_documented) = refl
begun_by (refusal not_mapped) = refl

-- ---- a call that is run, from bytes of the right lengths that hold a well formed state

module _ (cpu ram rom area counts : List ℕ) (n : ℕ) (sized : are_sized (length cpu) (length ram) (length area) (length counts) ≡ true) (held : number_in area ≡ 0)
    (over : ltb (cpu_of cpu).over 32 ≡ true) (whole : length rom ≡ 24576) where
  well : is_well_formed (cpu_of cpu) (state_in area) ≡ true
  well = rw (over, loaded_well area held)

  left_by_run : (es xs : List ℕ) → ltb (length xs) (length es) ≡ false
      → firmware_in cpu ram rom area es xs n counts
      ≡ left (firmware (cpu_of cpu) ram rom (state_in area) es xs n).number (cpu_bytes (firmware (cpu_of cpu) ram rom (state_in area) es xs n).cpu) (firmware (cpu_of cpu) ram rom (state_in area) es xs n).ram
      (bytes_of (firmware (cpu_of cpu) ram rom (state_in area) es xs n).chip) (firmware (cpu_of cpu) ram rom (state_in area) es xs n).answers
      (counts_of (firmware (cpu_of cpu) ram rom (state_in area) es xs n).counted (firmware (cpu_of cpu) ram rom (state_in area) es xs n).given)
  unfolding firmware_in run_in
  left_by_run es xs p =
      let k = state_in area in
      let m = machine (cpu_of cpu) ram k in
      let r = is_run (cpu_of cpu) ram rom k es xs n well (eq-eqb (length rom) 24576 whole) p in
      let b : has_begun (firmware (cpu_of cpu) ram rom k es xs n).number ≡ true = ap (λ (d : Called). has_begun d.number) r ∙ begun_by (run_number_lem n 0 rom es m) in
      rw (sized, held, b)

  left_read : (es xs : List ℕ) → ltb (length xs) (length es) ≡ false
      → state_in (bytes_of (firmware (cpu_of cpu) ram rom (state_in area) es xs n).chip) ≡ (firmware (cpu_of cpu) ram rom (state_in area) es xs n).chip
  left_read es xs p =
      let k = state_in area in
      rw (is_run (cpu_of cpu) ram rom k es xs n well (eq-eqb (length rom) 24576 whole) p) (run_read n rom es (machine (cpu_of cpu) ram k) well (loaded_registers area held))

  -- what agrees of two calls on states agrees of those on bytes
  carried : (es fs xs ys : List ℕ) → ltb (length xs) (length es) ≡ false → ltb (length ys) (length fs) ≡ false → {s t : List Entry}
      → CallsAgree (firmware (cpu_of cpu) ram rom (state_in area) es xs n) (firmware (cpu_of cpu) ram rom (state_in area) fs ys n) s t
      → BytesAgree (firmware_in cpu ram rom area es xs n counts) (firmware_in cpu ram rom area fs ys n counts) s t
  carried es fs xs ys p p' z =
      rw (left_by_run es xs p, left_by_run fs ys p')
      (record {
        number = z.number;
        cpu = ap cpu_bytes z.cpu;
        ram = z.ram;
        counts = ap₂ counts_of z.counted z.events_given;
        answers = z.answers;
        accesses = z.accesses;
        order = z.order;
        state = ap compared_state (left_read es xs p) ∙ z.chip ∙ sym (ap compared_state (left_read fs ys p'));
      })

  module _ (ddc2b : mode_of (state_in area).core ≡ Ddc2b) {b : Trace} (begun : Begun (state_in area).core.bus.phase b) (es fs xs ys : List ℕ)
      (places : ltb (length xs) (length es) ≡ false) (places' : ltb (length ys) (length fs) ≡ false) where
    -- of the listed events, that they agree
    pub demand_3_listed : ForeignLists n es fs (observer_of (state_in area) b) (observer_of (state_in area) b) (trace n 0 rom es (machine (cpu_of cpu) ram (state_in area))) (trace n 0 rom fs (machine (cpu_of cpu) ram (state_in area)))
        → BytesAgree (firmware_in cpu ram rom area es xs n counts) (firmware_in cpu ram rom area fs ys n counts) (trace n 0 rom es (machine (cpu_of cpu) ram (state_in area))) (trace n 0 rom fs (machine (cpu_of cpu) ram (state_in area)))
    demand_3_listed q = carried es fs xs ys places places' (firmware_calls_listed (cpu_of cpu) ram rom (state_in area) n well whole ddc2b begun es fs xs ys places places' q)

    -- by the words of the two lists alone
    pub demand_3_words : is_unaddressed (observer_of (state_in area) b) (trace n 0 rom es (machine (cpu_of cpu) ram (state_in area))) ≡ true
        → events_of (trace n 0 rom es (machine (cpu_of cpu) ram (state_in area))) ≡ es → keeps_address (trace n 0 rom es (machine (cpu_of cpu) ram (state_in area))) ≡ true
        → is_foreign_list es (observer_of (state_in area) b) fs ≡ true
        → BytesAgree (firmware_in cpu ram rom area es xs n counts) (firmware_in cpu ram rom area fs ys n counts) (trace n 0 rom es (machine (cpu_of cpu) ram (state_in area))) (trace n 0 rom fs (machine (cpu_of cpu) ram (state_in area)))
    demand_3_words q g u h = carried es fs xs ys places places' (firmware_calls_words (cpu_of cpu) ram rom (state_in area) n well whole ddc2b begun es fs xs ys places places' q g u h)
