-- A run of which is told whether all is printed.
use Rattle.std.specs.Prelude.{Bool}
use Rattle.firmware_trace.specs.declared.Run.{Run}

abbrev pub marked : Run → Bool → Run
marked r p =
    record { cpu = r.cpu; chip = r.chip; next = r.next; number = r.number; given = r.given; answer = r.answer; printed = p }
