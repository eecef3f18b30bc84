use mathlib.Core.Path.{refl}
use Rattle.cpu_instruction.proofs.Performs.{perform_leaves, perform_rejected, perform_pushes}
use Rattle.cpu_instruction.specs.Instruction.{execute}
use Rattle.cpu_execution.proofs.Branches.{branched_store}
use Rattle.cpu_execution.specs.Execution.{destination, stored, executed_to}
use borrow.Author.Rules.{rules}
use Rattle.cpu_execution.proofs.execute.Goals as goal

pub read_at-requires : goal.read_at-requires
unfolding execute destination stored executed_to
read_at-requires c = search rules

pub store_operation-v-requires : goal.store_operation-v-requires
unfolding execute destination stored executed_to
store_operation-v-requires c = search rules

pub modify_at-requires : goal.modify_at-requires
unfolding execute destination stored executed_to
modify_at-requires c = search rules

pub modify_a-requires : goal.modify_a-requires
unfolding execute destination stored executed_to
modify_a-requires c = search rules

pub implied_operation-requires : goal.implied_operation-requires
unfolding execute destination stored executed_to
implied_operation-requires c = search rules

pub branch-r-requires : goal.branch-r-requires
unfolding execute destination stored executed_to
branch-r-requires c = search rules

pub set_pc-requires : goal.set_pc-requires
unfolding execute destination stored executed_to
set_pc-requires c = search rules

pub jsr-requires : goal.jsr-requires
unfolding execute destination stored executed_to
jsr-requires c = search rules

pub rts-requires : goal.rts-requires
unfolding execute destination stored executed_to
rts-requires c = search rules

pub rti-requires : goal.rti-requires
unfolding execute destination stored executed_to
rti-requires c = search rules

pub brk-requires : goal.brk-requires
unfolding execute destination stored executed_to
brk-requires c = search rules

pub push-requires : goal.push-requires
unfolding execute destination stored executed_to
push-requires c = search rules

pub pushed_p-b-requires : goal.pushed_p-b-requires
unfolding execute destination stored executed_to
pushed_p-b-requires c = search rules

pub push-requires-in-Php : goal.push-requires-in-Php
unfolding execute destination stored executed_to
push-requires-in-Php c = search rules

pub pla-requires : goal.pla-requires
unfolding execute destination stored executed_to
pla-requires c = search rules

pub plp-requires : goal.plp-requires
unfolding execute destination stored executed_to
plp-requires c = search rules

pub returns-in-Read : goal.returns-in-Read
unfolding execute destination stored executed_to
returns-in-Read c = rw c.in-Read.is c.read_at.ensures

pub returns-in-Store : goal.returns-in-Store
unfolding execute destination stored executed_to
returns-in-Store c = simp (perform_leaves, c.in-Store.is, c.put.ensures.0, c.put.ensures.1, c.store_operation-v.ensures) (refl, refl)

pub returns-in-Modify : goal.returns-in-Modify
unfolding execute destination stored executed_to
returns-in-Modify c = rw c.in-Modify.is c.modify_at.ensures

pub returns-in-ModifyA : goal.returns-in-ModifyA
unfolding execute destination stored executed_to
returns-in-ModifyA c = simp (perform_leaves, c.in-ModifyA.is, c.modify_a.ensures) (refl, refl)

pub returns-in-Implied : goal.returns-in-Implied
unfolding execute destination stored executed_to
returns-in-Implied c = simp (perform_leaves, c.in-Implied.is, c.implied_operation.ensures) (refl, refl)

pub returns-in-Branch : goal.returns-in-Branch
unfolding execute destination stored executed_to
returns-in-Branch c = simp (perform_leaves, c.in-Branch.is, branched_store, c.branch-r.ensures) (refl, refl)

pub returns-in-Jmp : goal.returns-in-Jmp
unfolding execute destination stored executed_to
returns-in-Jmp c = simp (perform_leaves, c.in-Jmp.is, c.set_pc.ensures) (refl, refl)

pub returns-in-Jsr : goal.returns-in-Jsr
unfolding execute destination stored executed_to
returns-in-Jsr c = rw c.in-Jsr.is c.jsr.ensures

pub returns-in-Rts : goal.returns-in-Rts
unfolding execute destination stored executed_to
returns-in-Rts c = rw c.in-Rts.is c.rts.ensures

pub returns-in-Rti : goal.returns-in-Rti
unfolding execute destination stored executed_to
returns-in-Rti c = rw c.in-Rti.is c.rti.ensures

pub returns-in-Brk : goal.returns-in-Brk
unfolding execute destination stored executed_to
returns-in-Brk c = rw c.in-Brk.is c.brk.ensures

pub returns-in-Pha : goal.returns-in-Pha
unfolding execute destination stored executed_to
returns-in-Pha c = simp (perform_pushes, perform_leaves, c.in-Pha.is, c.push.ensures.0, c.push.ensures.1) (refl, refl)

pub returns-in-Php : goal.returns-in-Php
unfolding execute destination stored executed_to
returns-in-Php c = simp (perform_pushes, perform_leaves, c.in-Php.is, c.push-in-Php.ensures.0, c.push-in-Php.ensures.1, c.pushed_p-b.ensures) (refl, refl)

pub returns-in-Pla : goal.returns-in-Pla
unfolding execute destination stored executed_to
returns-in-Pla c = rw c.in-Pla.is c.pla.ensures

pub returns-in-Plp : goal.returns-in-Plp
unfolding execute destination stored executed_to
returns-in-Plp c = rw c.in-Plp.is c.plp.ensures

pub returns-in-Undocumented : goal.returns-in-Undocumented
unfolding execute destination stored executed_to
returns-in-Undocumented c = simp (perform_rejected, c.in-Undocumented.is) (refl, refl)
