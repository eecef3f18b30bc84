-- `firmware_capi::keep_cpu` meets its contract.
-- Assumes nothing.
use lib.ListN.{length-set}
use Rattle.firmware_capi.specs.Call.{cpu_bytes}
use Rattle.list_laws.proofs.Areas.{eight_places}
use native.Mathlib.Omega.{arith}
use borrow.Author.Rules.{rules}
use Rattle.firmware_capi.proofs.keep_cpu.Goals as goal

pub flags_byte-requires : goal.flags_byte-requires
unfolding cpu_bytes
flags_byte-requires c = search rules

pub bounds-bytes-4 : goal.bounds-bytes-4
unfolding cpu_bytes
bounds-bytes-4 c = simp length-set (omega arith)

pub bounds-bytes-5 : goal.bounds-bytes-5
unfolding cpu_bytes
bounds-bytes-5 c = simp length-set (omega arith)

pub bounds-bytes-6 : goal.bounds-bytes-6
unfolding cpu_bytes
bounds-bytes-6 c = simp length-set (omega arith)

pub bounds-bytes-7 : goal.bounds-bytes-7
unfolding cpu_bytes
bounds-bytes-7 c = simp length-set (omega arith)

pub returns : goal.returns
unfolding cpu_bytes
returns c = rw c.flags_byte.ensures (eight_places c.args.bytes.now _ _ _ _ _ _ _ _ c.requires)
