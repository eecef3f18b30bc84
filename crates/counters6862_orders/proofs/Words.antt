-- The codes are those of the words, and a line of each is read as its order.
-- Assumes nothing.
use mathlib.Core.Path.{◌≡◌, refl}
use mathlib.Core.List.{[], ◌∷◌}
use Rattle.counters6862_orders.specs.declared.Order.TheVariants.{Call, Field, Put}
use Rattle.std.specs.Prelude.{Some, None}
use Rattle.counters6862_orders.specs.Line.{letter_of, symbol_of, lettered, begun, grown}
use Rattle.counters6862_orders.specs.Orders.{code_of, with_number, bare, report_order, put_order, order_of}
use Rattle.counters6862_orders.specs.Words.{words, each, line_read, ordered, alone, one, two}

pub codes : each (code_of 0) words ≡ 6887016 ∷ 8 ∷ 22 ∷ 3554411 ∷ 182733996 ∷ 281772 ∷ 111176 ∷ 111190 ∷ 6591876 ∷ 17076 ∷ []
unfolding code_of
codes = refl

-- each word takes its own number of numbers, and no other
pub read_alone : each alone words
    ≡ None ∷ None ∷ None ∷ None ∷ None ∷ None ∷ Some (Call 6 0) ∷ Some (Call 7 0) ∷ Some Field ∷ None ∷ []
unfolding ordered line_read letter_of symbol_of lettered begun grown with_number bare report_order put_order order_of
read_alone = refl

pub read_one : each one words
    ≡ Some (Call 0 4096) ∷ Some (Call 1 4096) ∷ Some (Call 2 4096) ∷ Some (Call 3 4096) ∷ Some (Call 4 4096) ∷ Some (Call 5 4096) ∷ None ∷ None ∷ None ∷ None ∷ []
unfolding ordered line_read letter_of symbol_of lettered begun grown with_number bare report_order put_order order_of
read_one = refl

pub read_two : each two words
    ≡ None ∷ None ∷ None ∷ None ∷ None ∷ None ∷ None ∷ None ∷ None ∷ Some (Put 3 65535) ∷ []
unfolding ordered line_read letter_of symbol_of lettered begun grown with_number bare report_order put_order order_of
read_two = refl
