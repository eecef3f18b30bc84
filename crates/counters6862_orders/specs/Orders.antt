-- What a line asks for: its word, how many numbers it has, and the last two of them.
use Rattle.std.specs.Prelude.{ℕ, ◌+◌, ◌-◌, ◌*◌, List, [], ◌∷◌, eqb, ltb, Option, Some, None}
use Rattle.bits.specs.Byte.{pick}
use Rattle.counters6862_orders.specs.declared.Order.{Order}
use Rattle.counters6862_orders.specs.declared.Order.TheVariants.{Call, Field, Put}
use Rattle.counters6862_orders.specs.declared.Line.{Line}

-- a call with one number, and one with none
unfoldable pub with_number : ℕ → ℕ → ℕ → Option Order
with_number code count value = pick (eqb count 1) (Some (Call code value)) None

unfoldable pub bare : ℕ → ℕ → Option Order
bare code count = pick (eqb count 0) (Some (Call code 0)) None

unfoldable pub report_order : ℕ → Option Order
report_order count = pick (eqb count 0) (Some Field) None

-- a number of 16 bits to a place below twelve
unfoldable pub put_order : ℕ → ℕ → ℕ → Option Order
put_order count place value = pick (eqb count 2) (pick (ltb place 12) (pick (ltb value 65536) (Some (Put place value)) None) None) None

-- the code of a word: five bits a letter, `a` being 1
unfoldable pub code_of : ℕ → List ℕ → ℕ
code_of code [] = code
code_of code (b ∷ rest) = code_of (code * 32 + (b - 96)) rest

-- the words, by their codes: fresh, h, v, clock, enhsel, hsel with a number; clrh, clrv, field alone; put with two
unfoldable pub order_of : Line → Option Order
order_of line =
    pick (eqb line.word 6887016) (with_number 0 line.count line.value)
    (pick (eqb line.word 8) (with_number 1 line.count line.value)
    (pick (eqb line.word 22) (with_number 2 line.count line.value)
    (pick (eqb line.word 3554411) (with_number 3 line.count line.value)
    (pick (eqb line.word 182733996) (with_number 4 line.count line.value)
    (pick (eqb line.word 281772) (with_number 5 line.count line.value)
    (pick (eqb line.word 111176) (bare 6 line.count)
    (pick (eqb line.word 111190) (bare 7 line.count)
    (pick (eqb line.word 6591876) (report_order line.count)
    (pick (eqb line.word 17076) (put_order line.count line.first line.value) None)))))))))
