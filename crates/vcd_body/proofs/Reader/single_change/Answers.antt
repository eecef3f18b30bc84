-- `vcd_body::Reader::single_change` meets its contract.
-- Assumes nothing.
use mathlib.Core.Path.{refl, sym, ap, ◌∙◌}
use mathlib.Core.Path.{◌≡◌}
use Prim.Native.Nat.{ℕ, ◌+◌}
use mathlib.Core.List.{[], ◌∷◌}
use lib.ListN.{get_or}
use borrow.Author.Rules.{rules}
use Rattle.vcd_body.specs.Reader.{look}
use Rattle.vcd_body.proofs.Running.{single_code}
use Rattle.vcd_body.proofs.Reader.single_change.Goals as goal

pub returns : goal.returns
returns c =
    let a = c.args in
    λ scale n.
    c.write_change.ensures (look a.self.now) scale a.self.now.text.now a.p n refl (c.requires.tables.single.each _ (search rules) ∙ ap (λ (b : ℕ). look a.self.now (b ∷ [])) (let e : c.from.result ≡ get_or a.self.now.text.now (a.p + 1) 0 = search rules in e) ∙ ap (look a.self.now) (sym (single_code a.self.now.text.now a.p c.requires.p_in_bounds)))
