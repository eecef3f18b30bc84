-- `vcd_body::Reader::found` meets its contract.
-- Assumes nothing.
use mathlib.Core.Path.{◌≡◌, sym, ap, ◌∙◌}
use mathlib.Core.List.{[], ◌∷◌}
use Prim.Native.Nat.{ℕ}
use lib.ListN.{get_or}
use borrow.Author.Rules.{rules}
use Rattle.vcd_body.specs.Reader.{look}
use Rattle.vcd_body.proofs.Filling.{single, slot_right}
use Rattle.vcd_body.proofs.Reader.found.Goals as goal

pub returns-then-code-eq1 : goal.returns-then-code-eq1
returns-then-code-eq1 c =
    let a = c.args in
    let byte : c.from.result ≡ get_or a.code.now 0 0 = search rules in
    c.requires.single.each _ (search rules) ∙ ap (λ (b : ℕ). look a.self.now (b ∷ [])) byte ∙ ap (look a.self.now) (sym (single a.code.now c.if-code-eq1.true))

pub returns-then-is_code : goal.returns-then-is_code
returns-then-is_code c = slot_right _ _ _ _ _ _ _ c.requires.listed c.if-k-lt32.true (sym c.is_code.ensures ∙ c.if-is_code.true)
