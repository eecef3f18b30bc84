use mathlib.Core.Path.{refl}
use Rattle.cpu_instruction.proofs.Performs.{perform_then}
use Rattle.cpu_instruction.specs.Instruction.{instruction_of}
use borrow.Author.Rules.{rules}
use Rattle.cpu_execution.proofs.instruction_of.Goals as goal

pub is_jsr-requires : goal.is_jsr-requires
unfolding instruction_of
is_jsr-requires c = search rules

pub mode_of-requires : goal.mode_of-requires
unfolding instruction_of
mode_of-requires c = search rules

pub locate-p-requires : goal.locate-p-requires
unfolding instruction_of
locate-p-requires c = search rules

pub wide_length-requires : goal.wide_length-requires
unfolding instruction_of
wide_length-requires c = search rules

pub ahead-requires : goal.ahead-requires
unfolding instruction_of
ahead-requires c = search rules

pub set_pc-d-requires : goal.set_pc-d-requires
unfolding instruction_of
set_pc-d-requires c = search rules

pub operation_of-requires : goal.operation_of-requires
unfolding instruction_of
operation_of-requires c = search rules

pub cycles_of-requires : goal.cycles_of-requires
unfolding instruction_of
cycles_of-requires c = search rules

pub execute-requires : goal.execute-requires
unfolding instruction_of
execute-requires c = search rules

pub returns-in-At : goal.returns-in-At
unfolding instruction_of
returns-in-At c = rw (perform_then, ← c.is_jsr.ensures, ← c.mode_of.ensures, ← c.locate-p.ensures.values, c.in-At.is) (simp (c.execute.ensures.0, c.execute.ensures.1, c.cycles_of.ensures.0, c.operation_of.ensures, c.set_pc-d.ensures, c.ahead.ensures, c.wide_length.ensures) (refl, refl))

pub returns-in-Refused : goal.returns-in-Refused
unfolding instruction_of
returns-in-Refused c = rw (perform_then, ← c.is_jsr.ensures, ← c.mode_of.ensures, ← c.locate-p.ensures.values, c.in-Refused.is) (refl, refl)
