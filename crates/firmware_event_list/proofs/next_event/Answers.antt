-- `firmware_event_list::next_event` meets its contract: what is found from here is what is found from the start.
-- Assumes nothing.
use mathlib.Core.Path.{◌≡◌, sym, ap, ◌∙◌}
use mathlib.Core.Bool.{true, false}
use Prim.Native.Nat.{◌+◌}
use native.Mathlib.Omega.{arith}
use borrow.Author.Rules.{rules}
use borrow.Author.Tests.{eq-eqb, ne_eqb}
use lib.ListN.{drop}
use Rattle.firmware_event_lines.specs.declared.Reader.{Reader}
use Rattle.firmware_event_lines.specs.Lines.{line_start, meaning_of}
use Rattle.firmware_event_list.specs.Lists.{is_something, found_as, found_on}
use Rattle.firmware_event_list.proofs.Reading.{found_within, found_nothing, found_something, found_end_lem}
use Rattle.firmware_event_list.proofs.next_event.Goals as goal
use Rattle.firmware_event_list.proofs.next_event.Goals.{then-b-eq10+else-is_something, else-b-eq10}

pub returns-then-is_something : goal.returns-then-is_something
returns-then-is_something c =
    let r = c.loop-i.reader in
    let meaning = c.meaning_of-meaning.ensures in
    let told : is_something (meaning_of r.line) ≡ true = ap is_something (sym meaning) ∙ sym c.is_something.ensures ∙ c.if-is_something.true in
    ap (λ (k : Reader). found_as k (c.loop-i.i + 1) c.meaning_of-meaning.result) c.line_start-reader.ensures
    ∙ ap (found_as line_start (c.loop-i.i + 1)) meaning
    ∙ found_something r _ c.loop-i.i (search rules) (eq-eqb _ _ c.if-b-eq10.true) told
    ∙ c.loop-i.invariant.1

pub loop-i-preserved : goal.loop-i-preserved
loop-i-preserved c =
    let r = c.loop-i.reader in
    let bytes = c.args.bytes.now in
    let found_from = λ (k : Reader). found_on k (c.loop-i.i + 1) (drop (c.loop-i.i + 1) bytes) in
    elim c.if-b-eq10.branch [
      | then-b-eq10+else-is_something w ↦
          let told : is_something (meaning_of r.line) ≡ false = ap is_something (sym w.meaning_of-meaning.ensures) ∙ sym w.is_something.ensures ∙ w.if-is_something.false in (
            omega arith,
            ap found_from (w.reader-is ∙ w.line_start-reader.ensures)
                ∙ found_nothing r bytes c.loop-i.i (search rules) (eq-eqb _ _ w.if-b-eq10.true) told
                ∙ c.loop-i.invariant.1,
          )
      | else-b-eq10 w ↦ (
        omega arith,
        ap found_from (w.reader-is ∙ w.next-reader.ensures)
            ∙ found_within r bytes c.loop-i.i (search rules) (ne_eqb _ _ w.if-b-eq10.false)
            ∙ c.loop-i.invariant.1,
      )
    ]

pub returns : goal.returns
returns c =
    let last : c.max.result ≡ c.loop-i.i = omega arith in
    rw last (found_end_lem _ _ c.loop-i.i (search rules) ∙ c.loop-i.invariant.1)
