-- The states and the transfers with which the runs of demand 3 are computed.
use Rattle.std.specs.Prelude.{ℕ, ◌+◌, ◌/◌, ◌%◌, List, [], ◌∷◌, ◌++◌, false}
use Rattle.chip.specs.declared.Chip.{Chip}
use Rattle.chip.specs.State.{fresh, chip_of, with_reset}
use Rattle.list_call.specs.Run.{after}

-- a bit on the bus: SCL falls, SDA is put, SCL rises
unfoldable pub clock_bit : ℕ → List ℕ
clock_bit level = 0x03001900 ∷ (0x03001800 + level) ∷ 0x03001901 ∷ []

-- a byte, top bit first, and a ninth clock with SDA high; then II DAT and IRQX are read
unfoldable pub transfer : ℕ → List ℕ
unfolding clock_bit
transfer n =
    clock_bit (n / 128 % 2) ++ (clock_bit (n / 64 % 2) ++ (clock_bit (n / 32 % 2) ++ (clock_bit (n / 16 % 2) ++ (clock_bit (n / 8 % 2) ++
    (clock_bit (n / 4 % 2) ++ (clock_bit (n / 2 % 2) ++ (clock_bit (n % 2) ++ (clock_bit 1 ++ (0x01001400 ∷ 0x01001000 ∷ [])))))))))

-- SDA falls with SCL high, a transfer, and a STOP
unfoldable pub whole : ℕ → List ℕ
unfolding clock_bit
whole n = 0x03001800 ∷ (transfer n ++ (clock_bit 0 ++ (0x03001801 ∷ [])))

-- MDCON and II STS written 0: DDC2B, the bus idle
unfoldable pub idle_state : Chip
idle_state = after fresh (0x02000500 ∷ 0x02001500 ∷ [])

-- and a START
unfoldable pub started_state : Chip
unfolding idle_state
started_state = after idle_state (0x03001800 ∷ [])

-- the same with RESET low
unfoldable pub low_state : Chip
unfolding started_state
low_state = chip_of started_state.registers (with_reset started_state.core false)

-- a bit while RESET is low, then RESET high and a transfer
unfoldable pub after_low : ℕ → List ℕ
unfolding clock_bit
after_low n = clock_bit (n % 2) ++ (0x03001c01 ∷ transfer n)
