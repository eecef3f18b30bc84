use native.Mathlib.Omega.{arith}
use borrow.Author.Rules.{rules}
use borrow.Author.Tests.{eq-eqb, ne_eqb}
use Rattle.cpu_register_cache.proofs.Chips.{changed_watchdog, watchdog_asked, changed_dac, dac_asked, changed_other}
use Rattle.firmware_run.proofs.Running.{begin, finish, ticks, ticks_less, on, on_less, due, due_less, interrupts, interrupts_less, wrote, wrote_less, refused_write_lem, refuses, waits, waits_less}
use Rattle.firmware_run.proofs.advance.Goals as goal

pub loop-i-init : goal.loop-i-init
loop-i-init c = begin _ _ _ _ _ _ _ _ _ (search rules) c.requires.2 c.requires.3 c.requires.1 c.is_requesting-request.ensures

pub overflow_add-i : goal.overflow_add-i
overflow_add-i c = omega (arith, c.loop-i.invariant.small, c.loop-i-test.true)

pub loop-i-smaller-in-On : goal.loop-i-smaller-in-On
loop-i-smaller-in-On c = on_less _ _ _ _ _ _ _ _ _ _ _ _ c.loop-i.invariant c.loop-i-test.true c.if-clocked.true _ c.requires.0 _ _ c.turn_of-t.ensures.0 c.turn_of-t.ensures.1 _

pub loop-i-preserved-in-On : goal.loop-i-preserved-in-On
loop-i-preserved-in-On c = on _ _ _ _ _ _ _ _ _ _ _ _ c.loop-i.invariant c.loop-i-test.true c.if-clocked.true _ c.requires.0 _ _ c.turn_of-t.ensures.0 c.turn_of-t.ensures.1 _ c.in-On.is

pub loop-i-smaller-in-Clock : goal.loop-i-smaller-in-Clock
loop-i-smaller-in-Clock c = due_less _ _ _ _ _ _ _ _ _ _ _ _ c.loop-i.invariant c.loop-i-test.true c.if-clocked.true _ c.requires.0 _ _ c.turn_of-t.ensures.0 c.turn_of-t.ensures.1

pub loop-i-preserved-in-Clock : goal.loop-i-preserved-in-Clock
loop-i-preserved-in-Clock c = due _ _ _ _ _ _ _ _ _ _ _ _ c.loop-i.invariant c.loop-i-test.true c.if-clocked.true _ c.requires.0 _ _ c.turn_of-t.ensures.0 c.turn_of-t.ensures.1 _ c.in-Clock.is

pub loop-i-smaller-in-Interrupt : goal.loop-i-smaller-in-Interrupt
loop-i-smaller-in-Interrupt c = interrupts_less _ _ _ _ _ _ _ _ _ _ _ _ c.loop-i.invariant c.loop-i-test.true c.if-clocked.true _ c.requires.0 _ _ c.turn_of-t.ensures.0 c.turn_of-t.ensures.1 c.in-Interrupt.is _ c.interrupt-e.ensures.0 _ c.forget.ensures

pub loop-i-preserved-in-Interrupt : goal.loop-i-preserved-in-Interrupt
loop-i-preserved-in-Interrupt c = interrupts _ _ _ _ _ _ _ _ _ _ _ _ c.loop-i.invariant c.loop-i-test.true c.if-clocked.true _ c.requires.0 _ _ c.turn_of-t.ensures.0 c.turn_of-t.ensures.1 c.in-Interrupt.is _ c.interrupt-e.ensures.0 _ c.interrupt-e.ensures.1 _ c.forget.ensures _ c.is_requesting-request-in-Interrupt.ensures

pub number_after-j-requires : goal.number_after-j-requires
number_after-j-requires c = omega (arith, c.loop-i.invariant.small, c.loop-i-test.true)

pub loop-i-smaller-then-r-eq-CLRWDT : goal.loop-i-smaller-then-r-eq-CLRWDT
loop-i-smaller-then-r-eq-CLRWDT c = wrote_less _ _ _ _ _ _ _ _ _ _ _ _ c.loop-i.invariant c.loop-i-test.true c.if-clocked.true _ c.requires.0 _ _ c.turn_of-t.ensures.0 c.turn_of-t.ensures.1 _ _ _ _ c.in-Write.is _ _ c.loop-i.seen (changed_watchdog c.loop-i.seen _ _ _ _ c.if-r-eq-CLRWDT.true _ c.watchdog_after.ensures c.loop-i.invariant.high c.loop-i.invariant.size c.loop-i.invariant.knows) _ _ c.set_over-d.ensures _ c.are_few-few.ensures _ c.number_after-j.ensures

pub loop-i-preserved-then-r-eq-CLRWDT : goal.loop-i-preserved-then-r-eq-CLRWDT
loop-i-preserved-then-r-eq-CLRWDT c = wrote _ _ _ _ _ _ _ _ _ _ _ _ c.loop-i.invariant c.loop-i-test.true c.if-clocked.true _ c.requires.0 _ _ c.turn_of-t.ensures.0 c.turn_of-t.ensures.1 _ _ _ _ c.in-Write.is _ _ c.loop-i.seen (changed_watchdog c.loop-i.seen _ _ _ _ c.if-r-eq-CLRWDT.true _ c.watchdog_after.ensures c.loop-i.invariant.high c.loop-i.invariant.size c.loop-i.invariant.knows) _ c.cycles-x.ensures _ c.set_over-d.ensures _ c.are_few-few.ensures _ c.number_after-j.ensures _ (watchdog_asked _ _ _ _ c.loop-i.invariant.asked)

pub loop-i-smaller-then-is_dac : goal.loop-i-smaller-then-is_dac
loop-i-smaller-then-is_dac c = wrote_less _ _ _ _ _ _ _ _ _ _ _ _ c.loop-i.invariant c.loop-i-test.true c.if-clocked.true _ c.requires.0 _ _ c.turn_of-t.ensures.0 c.turn_of-t.ensures.1 _ _ _ _ c.in-Write.is _ _ _ (changed_dac c.loop-i.seen _ _ _ _ _ c.is_dac.ensures c.if-is_dac.true c.loop-i.invariant.high c.loop-i.invariant.size c.loop-i.invariant.knows _ _ c.write_dac.ensures.0 c.write_dac.ensures.1) _ _ c.set_over-d.ensures _ c.are_few-few.ensures _ c.number_after-j.ensures

pub loop-i-preserved-then-is_dac : goal.loop-i-preserved-then-is_dac
loop-i-preserved-then-is_dac c = wrote _ _ _ _ _ _ _ _ _ _ _ _ c.loop-i.invariant c.loop-i-test.true c.if-clocked.true _ c.requires.0 _ _ c.turn_of-t.ensures.0 c.turn_of-t.ensures.1 _ _ _ _ c.in-Write.is _ _ _ (changed_dac c.loop-i.seen _ _ _ _ _ c.is_dac.ensures c.if-is_dac.true c.loop-i.invariant.high c.loop-i.invariant.size c.loop-i.invariant.knows _ _ c.write_dac.ensures.0 c.write_dac.ensures.1) _ c.cycles-x.ensures _ c.set_over-d.ensures _ c.are_few-few.ensures _ c.number_after-j.ensures _ (dac_asked _ _ _ _ _ c.is_dac.ensures c.if-is_dac.true _ c.write_dac.ensures.0 _ c.loop-i.invariant.asked)

pub returns-then-w-ne0 : goal.returns-then-w-ne0
returns-then-w-ne0 c = (refused_write_lem _ _ _ _ _ _ _ _ _ _ _ _ c.loop-i.invariant c.loop-i-test.true c.if-clocked.true _ c.requires.0 _ _ c.turn_of-t.ensures.0 c.turn_of-t.ensures.1 _ _ _ _ c.in-Write.is _ c.write_number-w.ensures (ne_eqb _ _ c.if-w-ne0.true), c.loop-i.invariant.knows, c.loop-i.invariant.size)

pub loop-i-smaller-else-is_dac : goal.loop-i-smaller-else-is_dac
loop-i-smaller-else-is_dac c = wrote_less _ _ _ _ _ _ _ _ _ _ _ _ c.loop-i.invariant c.loop-i-test.true c.if-clocked.true _ c.requires.0 _ _ c.turn_of-t.ensures.0 c.turn_of-t.ensures.1 _ _ _ _ c.in-Write.is _ _ _ (changed_other c.loop-i.seen _ _ _ _ _ c.write_number-w.ensures (eq-eqb _ _ c.if-w-ne0.false) c.loop-i.invariant.high c.loop-i.invariant.size c.loop-i.invariant.knows _ _ _ c.write_register-k.ensures.0 c.write_register-k.ensures.1 c.write_register-k.ensures.2) _ _ c.set_over-d.ensures _ c.are_few-few.ensures _ c.number_after-j.ensures

pub loop-i-preserved-else-is_dac : goal.loop-i-preserved-else-is_dac
loop-i-preserved-else-is_dac c = wrote _ _ _ _ _ _ _ _ _ _ _ _ c.loop-i.invariant c.loop-i-test.true c.if-clocked.true _ c.requires.0 _ _ c.turn_of-t.ensures.0 c.turn_of-t.ensures.1 _ _ _ _ c.in-Write.is _ _ _ (changed_other c.loop-i.seen _ _ _ _ _ c.write_number-w.ensures (eq-eqb _ _ c.if-w-ne0.false) c.loop-i.invariant.high c.loop-i.invariant.size c.loop-i.invariant.knows _ _ _ c.write_register-k.ensures.0 c.write_register-k.ensures.1 c.write_register-k.ensures.2) _ c.cycles-x.ensures _ c.set_over-d.ensures _ c.are_few-few.ensures _ c.number_after-j.ensures _ c.is_requesting-request-else-is_dac.ensures

pub returns-in-Refused : goal.returns-in-Refused
returns-in-Refused c = (refuses _ _ _ _ _ _ _ _ _ _ _ _ c.loop-i.invariant c.loop-i-test.true c.if-clocked.true _ c.requires.0 _ _ c.turn_of-t.ensures.0 c.turn_of-t.ensures.1 _ c.in-Refused.is, c.loop-i.invariant.knows, c.loop-i.invariant.size)

pub loop-i-smaller-in-NotCached : goal.loop-i-smaller-in-NotCached
loop-i-smaller-in-NotCached c = waits_less _ _ _ _ _ _ _ _ _ _ _ _ c.loop-i.invariant c.loop-i-test.true c.if-clocked.true _ c.requires.0 _ _ c.turn_of-t.ensures.0 c.turn_of-t.ensures.1 _ c.in-NotCached.is _ c.read_register-read.ensures _ c.known_reading.ensures _ c.note.ensures

pub loop-i-preserved-in-NotCached : goal.loop-i-preserved-in-NotCached
loop-i-preserved-in-NotCached c = waits _ _ _ _ _ _ _ _ _ _ _ _ c.loop-i.invariant c.loop-i-test.true c.if-clocked.true _ c.requires.0 _ _ c.turn_of-t.ensures.0 c.turn_of-t.ensures.1 _ c.in-NotCached.is _ c.read_register-read.ensures _ c.known_reading.ensures _ c.note.ensures

pub overflow_add-i-else-clocked : goal.overflow_add-i-else-clocked
overflow_add-i-else-clocked c = omega (arith, c.loop-i.invariant.small, c.loop-i-test.true)

pub loop-i-smaller : goal.loop-i-smaller
loop-i-smaller c = ticks_less _ _ _ _ _ _ _ _ _ _ _ _ c.loop-i.invariant c.loop-i-test.true c.if-clocked.false _ c.hsel.ensures _ c.count_period-counted.ensures.1

pub loop-i-preserved : goal.loop-i-preserved
loop-i-preserved c = ticks _ _ _ _ _ _ _ _ _ _ _ _ c.loop-i.invariant c.loop-i-test.true c.if-clocked.false _ c.hsel.ensures _ c.count_period-counted.ensures.1 _ c.count_period-counted.ensures.0 _ c.phase_at_period.ensures _ c.with_phase-moved.ensures

pub returns : goal.returns
returns c = (finish _ _ _ _ _ _ _ _ _ _ _ _ c.loop-i.invariant c.loop-i-test.false, c.loop-i.invariant.knows, c.loop-i.invariant.size)
