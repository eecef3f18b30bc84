-- Every definition that a firmware run goes through, and those of the cases, opened at once.
use Prim.Native.Nat.{ℕ}
use Rattle.firmware_isolation_laws.proofs.Opened.{opened as run}
use Rattle.firmware_laws.specs.History.{interrupt_given, interrupt_cycles, instruction_given, instruction_cycles, turn_given, turn_cycles, given_before, history, cycles_counted}
use Rattle.firmware_laws.specs.Numbers.{made_by}
use Rattle.firmware_cases.specs.Firmware.{idle_chip, started_chip, fresh_machine, started_machine, gathering_machine, idle_machine, low_machine, requesting_machine, interruptible_machine, working_machine, stack_machine, index_machine, over31_machine, clock_bit, transfer, seven_bits, whole}
use Rattle.firmware_cases.specs.Tests.{tests}

-- a proof that names this on its `unfolding` line computes runs
unfoldable pub opened : ℕ
unfolding run idle_chip started_chip fresh_machine started_machine gathering_machine idle_machine low_machine requesting_machine interruptible_machine working_machine stack_machine index_machine over31_machine clock_bit transfer seven_bits whole tests interrupt_given interrupt_cycles instruction_given instruction_cycles turn_given turn_cycles given_before history cycles_counted made_by
opened = 0
