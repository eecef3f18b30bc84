-- A word's line has three tokens, so that it is always written where there is room.
-- Assumes nothing.
use mathlib.Core.Path.{◌≡◌, refl, sym, ap, ◌∙◌}
use mathlib.Core.List.{List}
use Prim.Native.Nat.{ℕ}
use native.Mathlib.Omega.{arith}
use lib.ListN.{length}
use borrow.Author.Tests.{le-ltb}
use Rattle.std.specs.Prelude.{Option, Some, None}
use Rattle.line_text.specs.Line.{size, content, line_size, line_content}
use Rattle.event_names.specs.declared.Kind.{Kind}
use Rattle.event_text_read.specs.Event.{line_kind}
use Rattle.event_text_write.specs.Event.{kind_tokens, tokens_by, event_tokens, print}

three_by : (k : Option Kind) (w : ℕ) → length (tokens_by k w) ≡ 3
unfolding tokens_by kind_tokens
three_by None w = refl
three_by (Some k) w = refl

pub three : (w : ℕ) → length (event_tokens w) ≡ 3
unfolding event_tokens
three w = three_by (line_kind w) w

pub as_event : (w : ℕ) (tokens out new : List ℕ) (r : ℕ) → tokens ≡ event_tokens w → (r ≡ line_size tokens out) × (new ≡ line_content tokens out)
    → (r ≡ size (print w) out) × (new ≡ content (print w) out)
unfolding line_size line_content
as_event w tokens out new r e g =
    let few = le-ltb 16 (length (event_tokens w)) (omega (arith, three w)) in
    rw (e, few) at g
