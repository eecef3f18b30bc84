-- `vcd_body::write_change` meets its contract.
-- Assumes nothing.
use native.Mathlib.Omega.{arith}
use Rattle.vcd_body.proofs.Running.{leads_silent, leads_pin}
use Rattle.vcd_body.proofs.write_change.Goals as goal

pub returns-then-list-eq0 : goal.returns-then-list-eq0
returns-then-list-eq0 c =
    let a = c.args in
    λ find scale text p n g f. rw c.moved.ensures (leads_silent find scale text a.run a.out.now p a.e a.b a.list n g c.requires.0 c.requires.1 f c.if-list-eq0.true)

pub returns-then-n-out : goal.returns-then-n-out
returns-then-n-out c =
    let a = c.args in
    λ find scale text p n g f.
    rw (c.moved-then-n-out.ensures, c.change_word.ensures) (leads_pin find scale text a.run a.out.now p a.e a.b a.list n g c.requires.0 c.requires.1 f (omega (arith, c.if-list-eq0.false)) (omega (arith, c.if-list-gt255.false)) c.if-n-out.true)
