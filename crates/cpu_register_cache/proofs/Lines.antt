-- After an event: of the bus's lines the registers show little.
use Prim.Native.Nat.{ℕ, ◌<◌}
use mathlib.Core.Path.{◌≡◌, refl, ap, sym, ◌∙◌}
use mathlib.Core.Bool.{Bool, true, false, true≢false, ◌||◌}
use mathlib.Core.List.{List}
use lib.Dec.{eqb}
use lib.ListN.{length, get_or}
use borrow.Author.Tests.{eqb-true}
use Rattle.bits.specs.Byte.{pick}
use Rattle.registers.specs.Names.{PT3, MDCON, IRQX, IIDAT, IISTS}
use Rattle.bus.specs.declared.Mode.{Mode}
use Rattle.bus.specs.declared.Mode.TheVariants.{Off, Ddc1, Ddc2b}
use Rattle.bus.specs.declared.Edge.{Edge}
use Rattle.bus.specs.declared.Edge.TheVariants.{Flat, Rise, Fall}
use Rattle.bus.specs.Bus.{edge, line, sda_pulled, scl_pulled}
use Rattle.std.specs.Prelude.{Ok, Err}
use Rattle.events.specs.Pins as pin
use Rattle.events.specs.Decoded.{Decoded}
use Rattle.events.specs.declared.Event.TheVariants as event
use Rattle.chip.specs.declared.Core.{Core}
use Rattle.chip.specs.declared.Chip.{Chip}
use Rattle.chip.specs.State.{chip_of, keep, with_sda, with_scl}
use Rattle.chip_reads.specs.Reads.{port0, port1, port2, hvcon, shown, reading}
use Rattle.chip_edges.specs.Edges.{active_mode, scl_rise, scl_fall, leave_ddc1, on_scl_ddc1, on_scl_ddc2b, on_scl, scl_moved, started, stopped, on_sda_ddc2b, on_sda, sda_moved}
use Rattle.chip_pins.specs.Pins.{pin_kind, pin_moved_as, pin_moved}
use Rattle.chip_events.specs.Outcome.{core_after, was_reset, reset_if, kept_after, next}
use Rattle.firmware_machine.specs.Seen.{Known, Knows}
use Rattle.cpu_register_cache.specs.Cache.{none_seen, forgotten, bus_forgotten, is_bus, seen_after_event}
use Rattle.cpu_register_cache.proofs.Registers.{knows_none, known_as, forgets, forgotten_length}

-- ---- what an edge of the bus leaves as it was

abbrev Beside : Core → Core → Type 0
Beside c d = (d.sync ≡ c.sync) × (d.pins ≡ c.pins) × (d.polarity ≡ c.polarity) × (d.reset ≡ c.reset)

scl_beside : (m : Mode) (e : Edge) (c : Core) → Beside c (on_scl m e c)
unfolding on_scl on_scl_ddc1 on_scl_ddc2b scl_rise scl_fall leave_ddc1
scl_beside Off e c = (refl, refl, refl, refl)
scl_beside Ddc1 Flat c = (refl, refl, refl, refl)
scl_beside Ddc1 Rise c = (refl, refl, refl, refl)
scl_beside Ddc1 Fall c = (refl, refl, refl, refl)
scl_beside Ddc2b Flat c = (refl, refl, refl, refl)
scl_beside Ddc2b Rise c = (refl, refl, refl, refl)
scl_beside Ddc2b Fall c = (refl, refl, refl, refl)

sda_beside : (m : Mode) (high : Bool) (e : Edge) (c : Core) → Beside c (on_sda m high e c)
unfolding on_sda on_sda_ddc2b started stopped
sda_beside Off high e c = (refl, refl, refl, refl)
sda_beside Ddc1 high e c = (refl, refl, refl, refl)
sda_beside Ddc2b high Flat c = (refl, refl, refl, refl)
sda_beside Ddc2b true Rise c = (refl, refl, refl, refl)
sda_beside Ddc2b false Rise c = (refl, refl, refl, refl)
sda_beside Ddc2b true Fall c = (refl, refl, refl, refl)
sda_beside Ddc2b false Fall c = (refl, refl, refl, refl)

-- ---- what the registers then show

beside_reading : (registers : List ℕ) (c d : Core) → Beside c d → (r : ℕ) → eqb r PT3 ≡ false → eqb r MDCON ≡ false → eqb r IRQX ≡ false → eqb r IIDAT ≡ false → eqb r IISTS ≡ false
    → reading (chip_of registers d) r ≡ reading (chip_of registers c) r
unfolding reading shown port0 port1 port2 hvcon
beside_reading registers c d b r e₀ e₁ e₂ e₃ e₄ = rw (e₀, e₁, e₂, e₃, e₄, b.0, b.1, b.2, b.3)

knows_beside : (seen registers : List ℕ) (c d : Core) → Beside c d → length seen ≡ 38 → Knows seen (chip_of registers c) → Knows (bus_forgotten seen) (chip_of registers d)
knows_beside seen registers c d b l h q g =
    let k : Chip = chip_of registers d in
    let s₀ : List ℕ = forgotten PT3 seen in
    let s₁ : List ℕ = forgotten MDCON s₀ in
    let s₂ : List ℕ = forgotten IRQX s₁ in
    let s₃ : List ℕ = forgotten IIDAT s₂ in
    let l₀ : length s₀ ≡ 38 = forgotten_length PT3 seen l in
    let l₁ : length s₁ ≡ 38 = forgotten_length MDCON s₀ l₀ in
    let l₂ : length s₂ ≡ 38 = forgotten_length IRQX s₁ l₁ in
    let l₃ : length s₃ ≡ 38 = forgotten_length IIDAT s₂ l₂ in
    forgets k IISTS s₃ l₃ q g (λ e₄. forgets k IIDAT s₂ l₂ q g (λ e₃. forgets k IRQX s₁ l₁ q g (λ e₂. forgets k MDCON s₀ l₀ q g (λ e₁. forgets k PT3 seen l q g
    (λ e₀. known_as (chip_of registers c) k q (get_or seen q 0) (beside_reading registers c d b q e₀ e₁ e₂ e₃ e₄) (h q g))))))

-- ---- after an event

scl_chip : (registers : List ℕ) (c : Core) (level : Bool) → next (chip_of registers c) (Ok (event.Pin pin.SCL level)) ≡ chip_of registers (scl_moved c level)
unfolding next kept_after was_reset core_after pin_moved pin_moved_as pin_kind
scl_chip registers c level = refl

sda_chip : (registers : List ℕ) (c : Core) (level : Bool) → next (chip_of registers c) (Ok (event.Pin pin.SDA level)) ≡ chip_of registers (sda_moved c level)
unfolding next kept_after was_reset core_after pin_moved pin_moved_as pin_kind
sda_chip registers c level = refl

knows_scl : (seen registers : List ℕ) (c : Core) (level : Bool) → length seen ≡ 38 → Knows seen (chip_of registers c) → Knows (bus_forgotten seen) (next (chip_of registers c) (Ok (event.Pin pin.SCL level)))
unfolding scl_moved
knows_scl seen registers c level l h =
    let pulled : Bool = scl_pulled (active_mode c) c.bus.phase in
    rw (scl_chip registers c level)
    (knows_beside seen registers c (scl_moved c level) (scl_beside (active_mode c) (edge (line pulled c.scl) (line pulled level)) (with_scl c level)) l h)

knows_sda : (seen registers : List ℕ) (c : Core) (level : Bool) → length seen ≡ 38 → Knows seen (chip_of registers c) → Knows (bus_forgotten seen) (next (chip_of registers c) (Ok (event.Pin pin.SDA level)))
unfolding sda_moved
knows_sda seen registers c level l h =
    let pulled : Bool = sda_pulled (active_mode c) c.bus.phase c.bus.shifter in
    rw (sda_chip registers c level)
    (knows_beside seen registers c (sda_moved c level)
    (sda_beside (active_mode c) (line (scl_pulled (active_mode c) c.bus.phase) c.scl) (edge (line pulled c.sda) (line pulled level)) (with_sda c level)) l h)

line_by : (x y : Bool) (seen registers : List ℕ) (c : Core) (p : ℕ) (level : Bool) → eqb p pin.SCL ≡ x → eqb p pin.SDA ≡ y → length seen ≡ 38 → Knows seen (chip_of registers c)
    → Knows (pick (x || y) (bus_forgotten seen) none_seen) (next (chip_of registers c) (Ok (event.Pin p level)))
line_by true y seen registers c p level e f l h = rw (eqb-true p pin.SCL e) (knows_scl seen registers c level l h)
line_by false true seen registers c p level e f l h = rw (eqb-true p pin.SDA f) (knows_sda seen registers c level l h)
line_by false false seen registers c p level e f l h = knows_none _

pub knows_event : (seen registers : List ℕ) (c : Core) (e : Decoded) → length seen ≡ 38 → Knows seen (chip_of registers c) → Knows (seen_after_event seen e) (next (chip_of registers c) e)
unfolding seen_after_event is_bus
knows_event seen registers c (Ok (event.Read a)) l h = knows_none _
knows_event seen registers c (Ok (event.Write a b)) l h = knows_none _
knows_event seen registers c (Ok (event.Pin p level)) l h = line_by (eqb p pin.SCL) (eqb p pin.SDA) seen registers c p level refl refl l h
knows_event seen registers c (Ok (event.Clock k)) l h = knows_none _
knows_event seen registers c (Ok (event.Polarity vertical level)) l h = knows_none _
knows_event seen registers c (Err r) l h = knows_none _

event_length_by : (b : Bool) (seen : List ℕ) → length seen ≡ 38 → length (pick b (bus_forgotten seen) none_seen) ≡ 38
event_length_by true seen l =
    forgotten_length IISTS (forgotten IIDAT (forgotten IRQX (forgotten MDCON (forgotten PT3 seen)))) (forgotten_length IIDAT (forgotten IRQX (forgotten MDCON (forgotten PT3 seen)))
    (forgotten_length IRQX (forgotten MDCON (forgotten PT3 seen)) (forgotten_length MDCON (forgotten PT3 seen) (forgotten_length PT3 seen l))))
event_length_by false seen l = refl

pub event_length : (seen : List ℕ) (e : Decoded) → length seen ≡ 38 → length (seen_after_event seen e) ≡ 38
unfolding seen_after_event
event_length seen e l = event_length_by (is_bus e) seen l
