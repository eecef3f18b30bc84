use borrow.Author.Tests.{ne_eqb}
use Rattle.cpu_opcodes.specs.Opcodes.{operation_numbered, operations}
use Rattle.cpu_opcodes.proofs.operation_numbered.Goals as goal

pub returns-in-0 : goal.returns-in-0
unfolding operation_numbered operations
returns-in-0 c = simp c.in-0.is

pub returns-in-1 : goal.returns-in-1
unfolding operation_numbered operations
returns-in-1 c = simp c.in-1.is

pub returns-in-2 : goal.returns-in-2
unfolding operation_numbered operations
returns-in-2 c = simp c.in-2.is

pub returns-in-3 : goal.returns-in-3
unfolding operation_numbered operations
returns-in-3 c = simp c.in-3.is

pub returns-in-4 : goal.returns-in-4
unfolding operation_numbered operations
returns-in-4 c = simp c.in-4.is

pub returns-in-5 : goal.returns-in-5
unfolding operation_numbered operations
returns-in-5 c = simp c.in-5.is

pub returns-in-6 : goal.returns-in-6
unfolding operation_numbered operations
returns-in-6 c = simp c.in-6.is

pub returns-in-7 : goal.returns-in-7
unfolding operation_numbered operations
returns-in-7 c = simp c.in-7.is

pub returns-in-8 : goal.returns-in-8
unfolding operation_numbered operations
returns-in-8 c = simp c.in-8.is

pub returns-in-9 : goal.returns-in-9
unfolding operation_numbered operations
returns-in-9 c = simp c.in-9.is

pub returns-in-10 : goal.returns-in-10
unfolding operation_numbered operations
returns-in-10 c = simp c.in-10.is

pub returns-in-11 : goal.returns-in-11
unfolding operation_numbered operations
returns-in-11 c = simp c.in-11.is

pub returns-in-12 : goal.returns-in-12
unfolding operation_numbered operations
returns-in-12 c = simp c.in-12.is

pub returns-in-13 : goal.returns-in-13
unfolding operation_numbered operations
returns-in-13 c = simp c.in-13.is

pub returns-in-14 : goal.returns-in-14
unfolding operation_numbered operations
returns-in-14 c = simp c.in-14.is

pub returns-in-15 : goal.returns-in-15
unfolding operation_numbered operations
returns-in-15 c = simp c.in-15.is

pub returns-in-16 : goal.returns-in-16
unfolding operation_numbered operations
returns-in-16 c = simp c.in-16.is

pub returns-in-17 : goal.returns-in-17
unfolding operation_numbered operations
returns-in-17 c = simp c.in-17.is

pub returns-in-18 : goal.returns-in-18
unfolding operation_numbered operations
returns-in-18 c = simp c.in-18.is

pub returns-in-19 : goal.returns-in-19
unfolding operation_numbered operations
returns-in-19 c = simp c.in-19.is

pub returns-in-20 : goal.returns-in-20
unfolding operation_numbered operations
returns-in-20 c = simp c.in-20.is

pub returns-in-21 : goal.returns-in-21
unfolding operation_numbered operations
returns-in-21 c = simp c.in-21.is

pub returns-in-22 : goal.returns-in-22
unfolding operation_numbered operations
returns-in-22 c = simp c.in-22.is

pub returns-in-23 : goal.returns-in-23
unfolding operation_numbered operations
returns-in-23 c = simp c.in-23.is

pub returns-in-24 : goal.returns-in-24
unfolding operation_numbered operations
returns-in-24 c = simp c.in-24.is

pub returns-in-25 : goal.returns-in-25
unfolding operation_numbered operations
returns-in-25 c = simp c.in-25.is

pub returns-in-26 : goal.returns-in-26
unfolding operation_numbered operations
returns-in-26 c = simp c.in-26.is

pub returns-in-27 : goal.returns-in-27
unfolding operation_numbered operations
returns-in-27 c = simp c.in-27.is

pub returns-in-28 : goal.returns-in-28
unfolding operation_numbered operations
returns-in-28 c = simp c.in-28.is

pub returns-in-29 : goal.returns-in-29
unfolding operation_numbered operations
returns-in-29 c = simp c.in-29.is

pub returns-in-30 : goal.returns-in-30
unfolding operation_numbered operations
returns-in-30 c = simp c.in-30.is

pub returns-in-31 : goal.returns-in-31
unfolding operation_numbered operations
returns-in-31 c = simp c.in-31.is

pub returns-in-32 : goal.returns-in-32
unfolding operation_numbered operations
returns-in-32 c = simp c.in-32.is

pub returns-in-33 : goal.returns-in-33
unfolding operation_numbered operations
returns-in-33 c = simp c.in-33.is

pub returns-in-34 : goal.returns-in-34
unfolding operation_numbered operations
returns-in-34 c = simp c.in-34.is

pub returns-in-35 : goal.returns-in-35
unfolding operation_numbered operations
returns-in-35 c = simp c.in-35.is

pub returns-in-36 : goal.returns-in-36
unfolding operation_numbered operations
returns-in-36 c = simp c.in-36.is

pub returns-in-37 : goal.returns-in-37
unfolding operation_numbered operations
returns-in-37 c = simp c.in-37.is

pub returns-in-38 : goal.returns-in-38
unfolding operation_numbered operations
returns-in-38 c = simp c.in-38.is

pub returns-in-39 : goal.returns-in-39
unfolding operation_numbered operations
returns-in-39 c = simp c.in-39.is

pub returns-in-40 : goal.returns-in-40
unfolding operation_numbered operations
returns-in-40 c = simp c.in-40.is

pub returns-in-41 : goal.returns-in-41
unfolding operation_numbered operations
returns-in-41 c = simp c.in-41.is

pub returns-in-42 : goal.returns-in-42
unfolding operation_numbered operations
returns-in-42 c = simp c.in-42.is

pub returns-in-43 : goal.returns-in-43
unfolding operation_numbered operations
returns-in-43 c = simp c.in-43.is

pub returns-in-44 : goal.returns-in-44
unfolding operation_numbered operations
returns-in-44 c = simp c.in-44.is

pub returns-in-45 : goal.returns-in-45
unfolding operation_numbered operations
returns-in-45 c = simp c.in-45.is

pub returns-in-46 : goal.returns-in-46
unfolding operation_numbered operations
returns-in-46 c = simp c.in-46.is

pub returns-in-47 : goal.returns-in-47
unfolding operation_numbered operations
returns-in-47 c = simp c.in-47.is

pub returns-in-48 : goal.returns-in-48
unfolding operation_numbered operations
returns-in-48 c = simp c.in-48.is

pub returns-in-49 : goal.returns-in-49
unfolding operation_numbered operations
returns-in-49 c = simp c.in-49.is

pub returns-in-50 : goal.returns-in-50
unfolding operation_numbered operations
returns-in-50 c = simp c.in-50.is

pub returns-in-51 : goal.returns-in-51
unfolding operation_numbered operations
returns-in-51 c = simp c.in-51.is

pub returns-in-52 : goal.returns-in-52
unfolding operation_numbered operations
returns-in-52 c = simp c.in-52.is

pub returns-in-53 : goal.returns-in-53
unfolding operation_numbered operations
returns-in-53 c = simp c.in-53.is

pub returns-in-54 : goal.returns-in-54
unfolding operation_numbered operations
returns-in-54 c = simp c.in-54.is

pub returns-in-55 : goal.returns-in-55
unfolding operation_numbered operations
returns-in-55 c = simp c.in-55.is

pub returns-in-56 : goal.returns-in-56
unfolding operation_numbered operations
returns-in-56 c = simp c.in-56.is

pub returns-in-57 : goal.returns-in-57
unfolding operation_numbered operations
returns-in-57 c = simp c.in-57.is

pub returns-in-58 : goal.returns-in-58
unfolding operation_numbered operations
returns-in-58 c = simp c.in-58.is

pub returns-in-59 : goal.returns-in-59
unfolding operation_numbered operations
returns-in-59 c = simp c.in-59.is

pub returns-in-60 : goal.returns-in-60
unfolding operation_numbered operations
returns-in-60 c = simp c.in-60.is

pub returns-in-61 : goal.returns-in-61
unfolding operation_numbered operations
returns-in-61 c = simp c.in-61.is

pub returns-in-62 : goal.returns-in-62
unfolding operation_numbered operations
returns-in-62 c = simp c.in-62.is

pub returns-in-63 : goal.returns-in-63
unfolding operation_numbered operations
returns-in-63 c = simp c.in-63.is

pub returns-in_default : goal.returns-in_default
unfolding operation_numbered operations
returns-in_default c = simp (ne_eqb _ _ c.in_default.in_default-own.rest.1, ne_eqb _ _ c.in_default.in_default-own.rest.0.1, ne_eqb _ _ c.in_default.in_default-own.rest.0.0.1, ne_eqb _ _ c.in_default.in_default-own.rest.0.0.0.1, ne_eqb _ _ c.in_default.in_default-own.rest.0.0.0.0.1, ne_eqb _ _ c.in_default.in_default-own.rest.0.0.0.0.0.1, ne_eqb _ _ c.in_default.in_default-own.rest.0.0.0.0.0.0.1, ne_eqb _ _ c.in_default.in_default-own.rest.0.0.0.0.0.0.0.1, ne_eqb _ _ c.in_default.in_default-own.rest.0.0.0.0.0.0.0.0.1, ne_eqb _ _ c.in_default.in_default-own.rest.0.0.0.0.0.0.0.0.0.1, ne_eqb _ _ c.in_default.in_default-own.rest.0.0.0.0.0.0.0.0.0.0.1, ne_eqb _ _ c.in_default.in_default-own.rest.0.0.0.0.0.0.0.0.0.0.0.1, ne_eqb _ _ c.in_default.in_default-own.rest.0.0.0.0.0.0.0.0.0.0.0.0.1, ne_eqb _ _ c.in_default.in_default-own.rest.0.0.0.0.0.0.0.0.0.0.0.0.0.1, ne_eqb _ _ c.in_default.in_default-own.rest.0.0.0.0.0.0.0.0.0.0.0.0.0.0.1, ne_eqb _ _ c.in_default.in_default-own.rest.0.0.0.0.0.0.0.0.0.0.0.0.0.0.0.1, ne_eqb _ _ c.in_default.in_default-own.rest.0.0.0.0.0.0.0.0.0.0.0.0.0.0.0.0.1, ne_eqb _ _ c.in_default.in_default-own.rest.0.0.0.0.0.0.0.0.0.0.0.0.0.0.0.0.0.1, ne_eqb _ _ c.in_default.in_default-own.rest.0.0.0.0.0.0.0.0.0.0.0.0.0.0.0.0.0.0.1, ne_eqb _ _ c.in_default.in_default-own.rest.0.0.0.0.0.0.0.0.0.0.0.0.0.0.0.0.0.0.0.1, ne_eqb _ _ c.in_default.in_default-own.rest.0.0.0.0.0.0.0.0.0.0.0.0.0.0.0.0.0.0.0.0.1, ne_eqb _ _ c.in_default.in_default-own.rest.0.0.0.0.0.0.0.0.0.0.0.0.0.0.0.0.0.0.0.0.0.1, ne_eqb _ _ c.in_default.in_default-own.rest.0.0.0.0.0.0.0.0.0.0.0.0.0.0.0.0.0.0.0.0.0.0.1, ne_eqb _ _ c.in_default.in_default-own.rest.0.0.0.0.0.0.0.0.0.0.0.0.0.0.0.0.0.0.0.0.0.0.0.1, ne_eqb _ _ c.in_default.in_default-own.rest.0.0.0.0.0.0.0.0.0.0.0.0.0.0.0.0.0.0.0.0.0.0.0.0.1, ne_eqb _ _ c.in_default.in_default-own.rest.0.0.0.0.0.0.0.0.0.0.0.0.0.0.0.0.0.0.0.0.0.0.0.0.0.1, ne_eqb _ _ c.in_default.in_default-own.rest.0.0.0.0.0.0.0.0.0.0.0.0.0.0.0.0.0.0.0.0.0.0.0.0.0.0.1, ne_eqb _ _ c.in_default.in_default-own.rest.0.0.0.0.0.0.0.0.0.0.0.0.0.0.0.0.0.0.0.0.0.0.0.0.0.0.0.1, ne_eqb _ _ c.in_default.in_default-own.rest.0.0.0.0.0.0.0.0.0.0.0.0.0.0.0.0.0.0.0.0.0.0.0.0.0.0.0.0.1, ne_eqb _ _ c.in_default.in_default-own.rest.0.0.0.0.0.0.0.0.0.0.0.0.0.0.0.0.0.0.0.0.0.0.0.0.0.0.0.0.0.1, ne_eqb _ _ c.in_default.in_default-own.rest.0.0.0.0.0.0.0.0.0.0.0.0.0.0.0.0.0.0.0.0.0.0.0.0.0.0.0.0.0.0.1, ne_eqb _ _ c.in_default.in_default-own.rest.0.0.0.0.0.0.0.0.0.0.0.0.0.0.0.0.0.0.0.0.0.0.0.0.0.0.0.0.0.0.0.1, ne_eqb _ _ c.in_default.in_default-own.rest.0.0.0.0.0.0.0.0.0.0.0.0.0.0.0.0.0.0.0.0.0.0.0.0.0.0.0.0.0.0.0.0.1, ne_eqb _ _ c.in_default.in_default-own.rest.0.0.0.0.0.0.0.0.0.0.0.0.0.0.0.0.0.0.0.0.0.0.0.0.0.0.0.0.0.0.0.0.0.1, ne_eqb _ _ c.in_default.in_default-own.rest.0.0.0.0.0.0.0.0.0.0.0.0.0.0.0.0.0.0.0.0.0.0.0.0.0.0.0.0.0.0.0.0.0.0.1, ne_eqb _ _ c.in_default.in_default-own.rest.0.0.0.0.0.0.0.0.0.0.0.0.0.0.0.0.0.0.0.0.0.0.0.0.0.0.0.0.0.0.0.0.0.0.0.1, ne_eqb _ _ c.in_default.in_default-own.rest.0.0.0.0.0.0.0.0.0.0.0.0.0.0.0.0.0.0.0.0.0.0.0.0.0.0.0.0.0.0.0.0.0.0.0.0.1, ne_eqb _ _ c.in_default.in_default-own.rest.0.0.0.0.0.0.0.0.0.0.0.0.0.0.0.0.0.0.0.0.0.0.0.0.0.0.0.0.0.0.0.0.0.0.0.0.0.1, ne_eqb _ _ c.in_default.in_default-own.rest.0.0.0.0.0.0.0.0.0.0.0.0.0.0.0.0.0.0.0.0.0.0.0.0.0.0.0.0.0.0.0.0.0.0.0.0.0.0.1, ne_eqb _ _ c.in_default.in_default-own.rest.0.0.0.0.0.0.0.0.0.0.0.0.0.0.0.0.0.0.0.0.0.0.0.0.0.0.0.0.0.0.0.0.0.0.0.0.0.0.0.1, ne_eqb _ _ c.in_default.in_default-own.rest.0.0.0.0.0.0.0.0.0.0.0.0.0.0.0.0.0.0.0.0.0.0.0.0.0.0.0.0.0.0.0.0.0.0.0.0.0.0.0.0.1, ne_eqb _ _ c.in_default.in_default-own.rest.0.0.0.0.0.0.0.0.0.0.0.0.0.0.0.0.0.0.0.0.0.0.0.0.0.0.0.0.0.0.0.0.0.0.0.0.0.0.0.0.0.1, ne_eqb _ _ c.in_default.in_default-own.rest.0.0.0.0.0.0.0.0.0.0.0.0.0.0.0.0.0.0.0.0.0.0.0.0.0.0.0.0.0.0.0.0.0.0.0.0.0.0.0.0.0.0.1, ne_eqb _ _ c.in_default.in_default-own.rest.0.0.0.0.0.0.0.0.0.0.0.0.0.0.0.0.0.0.0.0.0.0.0.0.0.0.0.0.0.0.0.0.0.0.0.0.0.0.0.0.0.0.0.1, ne_eqb _ _ c.in_default.in_default-own.rest.0.0.0.0.0.0.0.0.0.0.0.0.0.0.0.0.0.0.0.0.0.0.0.0.0.0.0.0.0.0.0.0.0.0.0.0.0.0.0.0.0.0.0.0.1, ne_eqb _ _ c.in_default.in_default-own.rest.0.0.0.0.0.0.0.0.0.0.0.0.0.0.0.0.0.0.0.0.0.0.0.0.0.0.0.0.0.0.0.0.0.0.0.0.0.0.0.0.0.0.0.0.0.1, ne_eqb _ _ c.in_default.in_default-own.rest.0.0.0.0.0.0.0.0.0.0.0.0.0.0.0.0.0.0.0.0.0.0.0.0.0.0.0.0.0.0.0.0.0.0.0.0.0.0.0.0.0.0.0.0.0.0.1, ne_eqb _ _ c.in_default.in_default-own.rest.0.0.0.0.0.0.0.0.0.0.0.0.0.0.0.0.0.0.0.0.0.0.0.0.0.0.0.0.0.0.0.0.0.0.0.0.0.0.0.0.0.0.0.0.0.0.0.1, ne_eqb _ _ c.in_default.in_default-own.rest.0.0.0.0.0.0.0.0.0.0.0.0.0.0.0.0.0.0.0.0.0.0.0.0.0.0.0.0.0.0.0.0.0.0.0.0.0.0.0.0.0.0.0.0.0.0.0.0.1, ne_eqb _ _ c.in_default.in_default-own.rest.0.0.0.0.0.0.0.0.0.0.0.0.0.0.0.0.0.0.0.0.0.0.0.0.0.0.0.0.0.0.0.0.0.0.0.0.0.0.0.0.0.0.0.0.0.0.0.0.0.1, ne_eqb _ _ c.in_default.in_default-own.rest.0.0.0.0.0.0.0.0.0.0.0.0.0.0.0.0.0.0.0.0.0.0.0.0.0.0.0.0.0.0.0.0.0.0.0.0.0.0.0.0.0.0.0.0.0.0.0.0.0.0.1, ne_eqb _ _ c.in_default.in_default-own.rest.0.0.0.0.0.0.0.0.0.0.0.0.0.0.0.0.0.0.0.0.0.0.0.0.0.0.0.0.0.0.0.0.0.0.0.0.0.0.0.0.0.0.0.0.0.0.0.0.0.0.0.1, ne_eqb _ _ c.in_default.in_default-own.rest.0.0.0.0.0.0.0.0.0.0.0.0.0.0.0.0.0.0.0.0.0.0.0.0.0.0.0.0.0.0.0.0.0.0.0.0.0.0.0.0.0.0.0.0.0.0.0.0.0.0.0.0.1, ne_eqb _ _ c.in_default.in_default-own.rest.0.0.0.0.0.0.0.0.0.0.0.0.0.0.0.0.0.0.0.0.0.0.0.0.0.0.0.0.0.0.0.0.0.0.0.0.0.0.0.0.0.0.0.0.0.0.0.0.0.0.0.0.0.1, ne_eqb _ _ c.in_default.in_default-own.rest.0.0.0.0.0.0.0.0.0.0.0.0.0.0.0.0.0.0.0.0.0.0.0.0.0.0.0.0.0.0.0.0.0.0.0.0.0.0.0.0.0.0.0.0.0.0.0.0.0.0.0.0.0.0.1, ne_eqb _ _ c.in_default.in_default-own.rest.0.0.0.0.0.0.0.0.0.0.0.0.0.0.0.0.0.0.0.0.0.0.0.0.0.0.0.0.0.0.0.0.0.0.0.0.0.0.0.0.0.0.0.0.0.0.0.0.0.0.0.0.0.0.0.1, ne_eqb _ _ c.in_default.in_default-own.rest.0.0.0.0.0.0.0.0.0.0.0.0.0.0.0.0.0.0.0.0.0.0.0.0.0.0.0.0.0.0.0.0.0.0.0.0.0.0.0.0.0.0.0.0.0.0.0.0.0.0.0.0.0.0.0.0.1, ne_eqb _ _ c.in_default.in_default-own.rest.0.0.0.0.0.0.0.0.0.0.0.0.0.0.0.0.0.0.0.0.0.0.0.0.0.0.0.0.0.0.0.0.0.0.0.0.0.0.0.0.0.0.0.0.0.0.0.0.0.0.0.0.0.0.0.0.0.1, ne_eqb _ _ c.in_default.in_default-own.rest.0.0.0.0.0.0.0.0.0.0.0.0.0.0.0.0.0.0.0.0.0.0.0.0.0.0.0.0.0.0.0.0.0.0.0.0.0.0.0.0.0.0.0.0.0.0.0.0.0.0.0.0.0.0.0.0.0.0.1, ne_eqb _ _ c.in_default.in_default-own.rest.0.0.0.0.0.0.0.0.0.0.0.0.0.0.0.0.0.0.0.0.0.0.0.0.0.0.0.0.0.0.0.0.0.0.0.0.0.0.0.0.0.0.0.0.0.0.0.0.0.0.0.0.0.0.0.0.0.0.0.1, ne_eqb _ _ c.in_default.in_default-own.rest.0.0.0.0.0.0.0.0.0.0.0.0.0.0.0.0.0.0.0.0.0.0.0.0.0.0.0.0.0.0.0.0.0.0.0.0.0.0.0.0.0.0.0.0.0.0.0.0.0.0.0.0.0.0.0.0.0.0.0.0.1, ne_eqb _ _ c.in_default.in_default-own.rest.0.0.0.0.0.0.0.0.0.0.0.0.0.0.0.0.0.0.0.0.0.0.0.0.0.0.0.0.0.0.0.0.0.0.0.0.0.0.0.0.0.0.0.0.0.0.0.0.0.0.0.0.0.0.0.0.0.0.0.0.0.1, ne_eqb _ _ c.in_default.in_default-own.rest.0.0.0.0.0.0.0.0.0.0.0.0.0.0.0.0.0.0.0.0.0.0.0.0.0.0.0.0.0.0.0.0.0.0.0.0.0.0.0.0.0.0.0.0.0.0.0.0.0.0.0.0.0.0.0.0.0.0.0.0.0.0.1, ne_eqb _ _ c.in_default.in_default-own.rest.0.0.0.0.0.0.0.0.0.0.0.0.0.0.0.0.0.0.0.0.0.0.0.0.0.0.0.0.0.0.0.0.0.0.0.0.0.0.0.0.0.0.0.0.0.0.0.0.0.0.0.0.0.0.0.0.0.0.0.0.0.0.0.1)
