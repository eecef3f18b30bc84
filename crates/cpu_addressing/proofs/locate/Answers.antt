-- the address, with number and values of its case
use mathlib.Core.Path.{◌≡◌}
use Rattle.cpu_memory.specs.Reads.{Result}
use Rattle.cpu_addressing.specs.declared.Effective.{Effective}
use Rattle.cpu_addressing.specs.declared.Located.{Located}
use Rattle.cpu_addressing.specs.declared.Located.TheVariants.{At, Refused}
use Rattle.cpu_memory.proofs.Runs.{run_then, run_read, run_done, run_undocumented}
use Rattle.cpu_addressing.specs.Addressing.{located_result, LocatedCase, locate}
use borrow.Author.Rules.{rules}
use Rattle.cpu_addressing.proofs.locate.Goals as goal

says : (r : Located) (x : Result Effective) → located_result r ≡ x → LocatedCase x r
says (At t) x e = record { number = rw (← e); values = e }
says (Refused n) x e = record { number = rw (← e); values = e }

pub ahead-a-requires : goal.ahead-a-requires
unfolding locate
ahead-a-requires c = search rules

pub ahead-b-requires : goal.ahead-b-requires
unfolding locate
ahead-b-requires c = search rules

pub zero_page-requires : goal.zero_page-requires
unfolding locate
zero_page-requires c = search rules

pub zero_page-requires-in-ZeroPageX : goal.zero_page-requires-in-ZeroPageX
unfolding locate
zero_page-requires-in-ZeroPageX c = search rules

pub zero_page-requires-in-ZeroPageY : goal.zero_page-requires-in-ZeroPageY
unfolding locate
zero_page-requires-in-ZeroPageY c = search rules

pub absolute_unless-requires : goal.absolute_unless-requires
unfolding locate
absolute_unless-requires c = search rules

pub absolute_at-requires : goal.absolute_at-requires
unfolding locate
absolute_at-requires c = search rules

pub absolute_at-requires-in-AbsoluteY : goal.absolute_at-requires-in-AbsoluteY
unfolding locate
absolute_at-requires-in-AbsoluteY c = search rules

pub indirect_at-requires : goal.indirect_at-requires
unfolding locate
indirect_at-requires c = search rules

pub zero_page_pointer-requires : goal.zero_page_pointer-requires
unfolding locate
zero_page_pointer-requires c = search rules

pub zero_page_pointer-requires-in-IndirectIndexed : goal.zero_page_pointer-requires-in-IndirectIndexed
unfolding locate
zero_page_pointer-requires-in-IndirectIndexed c = search rules

pub relative_at-requires : goal.relative_at-requires
unfolding locate
relative_at-requires c = search rules

pub returns-in-Implied : goal.returns-in-Implied
unfolding locate
returns-in-Implied c = says _ _ (simp (run_then, run_read, run_done, run_undocumented, c.in-Implied.is, c.uncrossed.ensures, c.ahead-b.ensures, c.ahead-a.ensures))

pub returns-in-Accumulator : goal.returns-in-Accumulator
unfolding locate
returns-in-Accumulator c = says _ _ (simp (run_then, run_read, run_done, run_undocumented, c.in-Accumulator.is, c.uncrossed-in-Accumulator.ensures, c.ahead-b.ensures, c.ahead-a.ensures))

pub returns-in-Immediate : goal.returns-in-Immediate
unfolding locate
returns-in-Immediate c = says _ _ (simp (run_then, run_read, run_done, run_undocumented, c.in-Immediate.is, c.uncrossed-in-Immediate.ensures, c.ahead-b.ensures, c.ahead-a.ensures))

pub returns-in-ZeroPage : goal.returns-in-ZeroPage
unfolding locate
returns-in-ZeroPage c = says _ _ (simp (run_then, run_read, run_done, run_undocumented, c.zero_page.ensures, c.in-ZeroPage.is, c.ahead-b.ensures, c.ahead-a.ensures))

pub returns-in-ZeroPageX : goal.returns-in-ZeroPageX
unfolding locate
returns-in-ZeroPageX c = says _ _ (simp (run_then, run_read, run_done, run_undocumented, c.zero_page-in-ZeroPageX.ensures, c.in-ZeroPageX.is, c.ahead-b.ensures, c.ahead-a.ensures))

pub returns-in-ZeroPageY : goal.returns-in-ZeroPageY
unfolding locate
returns-in-ZeroPageY c = says _ _ (simp (run_then, run_read, run_done, run_undocumented, c.zero_page-in-ZeroPageY.ensures, c.in-ZeroPageY.is, c.ahead-b.ensures, c.ahead-a.ensures))

pub returns-in-Absolute : goal.returns-in-Absolute
unfolding locate
returns-in-Absolute c = says _ _ (simp (run_then, run_read, run_done, run_undocumented, c.absolute_unless.ensures, c.in-Absolute.is, c.ahead-b.ensures, c.ahead-a.ensures))

pub returns-in-AbsoluteX : goal.returns-in-AbsoluteX
unfolding locate
returns-in-AbsoluteX c = says _ _ (simp (run_then, run_read, run_done, run_undocumented, c.absolute_at.ensures, c.in-AbsoluteX.is, c.ahead-b.ensures, c.ahead-a.ensures))

pub returns-in-AbsoluteY : goal.returns-in-AbsoluteY
unfolding locate
returns-in-AbsoluteY c = says _ _ (simp (run_then, run_read, run_done, run_undocumented, c.absolute_at-in-AbsoluteY.ensures, c.in-AbsoluteY.is, c.ahead-b.ensures, c.ahead-a.ensures))

pub returns-in-AbsoluteIndirect : goal.returns-in-AbsoluteIndirect
unfolding locate
returns-in-AbsoluteIndirect c = says _ _ (simp (run_then, run_read, run_done, run_undocumented, c.indirect_at.ensures, c.in-AbsoluteIndirect.is, c.ahead-b.ensures, c.ahead-a.ensures))

pub returns-in-IndexedIndirect : goal.returns-in-IndexedIndirect
unfolding locate
returns-in-IndexedIndirect c = says _ _ (simp (run_then, run_read, run_done, run_undocumented, c.zero_page_pointer.ensures, c.in-IndexedIndirect.is, c.ahead-b.ensures, c.ahead-a.ensures))

pub returns-in-IndirectIndexed : goal.returns-in-IndirectIndexed
unfolding locate
returns-in-IndirectIndexed c = says _ _ (simp (run_then, run_read, run_done, run_undocumented, c.zero_page_pointer-in-IndirectIndexed.ensures, c.in-IndirectIndexed.is, c.ahead-b.ensures, c.ahead-a.ensures))

pub returns-in-Relative : goal.returns-in-Relative
unfolding locate
returns-in-Relative c = says _ _ (simp (run_then, run_read, run_done, run_undocumented, c.relative_at.ensures, c.in-Relative.is, c.ahead-b.ensures, c.ahead-a.ensures))

pub returns-in-Undocumented : goal.returns-in-Undocumented
unfolding locate
returns-in-Undocumented c = says _ _ (simp (run_undocumented, c.in-Undocumented.is))
