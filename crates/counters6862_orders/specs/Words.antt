-- The words of an order, and a line of each of them.
use Rattle.std.specs.Prelude.{ℕ, List, [], ◌∷◌, ◌++◌, Option, Some, None}
use Rattle.counters6862_orders.specs.declared.Found.{Found}
use Rattle.counters6862_orders.specs.declared.Found.TheVariants.{Within, Ended}
use Rattle.counters6862_orders.specs.declared.Order.{Order}
use Rattle.counters6862_orders.specs.Line.{line_start, next}
use Rattle.counters6862_orders.specs.Orders.{order_of}

-- the words as bytes
abbrev pub words : List (List ℕ)
words =
    (102 ∷ 114 ∷ 101 ∷ 115 ∷ 104 ∷ [])
    ∷ (104 ∷ [])
    ∷ (118 ∷ [])
    ∷ (99 ∷ 108 ∷ 111 ∷ 99 ∷ 107 ∷ [])
    ∷ (101 ∷ 110 ∷ 104 ∷ 115 ∷ 101 ∷ 108 ∷ [])
    ∷ (104 ∷ 115 ∷ 101 ∷ 108 ∷ [])
    ∷ (99 ∷ 108 ∷ 114 ∷ 104 ∷ [])
    ∷ (99 ∷ 108 ∷ 114 ∷ 118 ∷ [])
    ∷ (102 ∷ 105 ∷ 101 ∷ 108 ∷ 100 ∷ [])
    ∷ (112 ∷ 117 ∷ 116 ∷ [])
    ∷ []

-- a function of each
abbrev pub each : {A : Type 0} → (List ℕ → A) → List (List ℕ) → List A
each f [] = []
each f (x ∷ xs) = f x ∷ each f xs

-- what the bytes of a line bring, and the order of a whole line
unfoldable pub line_read : Option Found → List ℕ → Option Found
line_read f [] = f
line_read (Some (Within r)) (b ∷ rest) = line_read (next r b) rest
line_read (Some (Ended line)) (b ∷ rest) = Some (Ended line)
line_read None (b ∷ rest) = None

unfoldable pub ordered : Option Found → Option Order
ordered (Some (Within r)) = None
ordered (Some (Ended line)) = order_of line
ordered None = None

-- a word alone, with 4096, and with 3 and 65535
abbrev pub alone : List ℕ → Option Order
alone word = ordered (line_read (Some (Within line_start)) (word ++ (10 ∷ [])))

abbrev pub one : List ℕ → Option Order
one word = ordered (line_read (Some (Within line_start)) (word ++ (32 ∷ 52 ∷ 48 ∷ 57 ∷ 54 ∷ 10 ∷ [])))

abbrev pub two : List ℕ → Option Order
two word = ordered (line_read (Some (Within line_start)) (word ++ (32 ∷ 51 ∷ 32 ∷ 54 ∷ 53 ∷ 53 ∷ 51 ∷ 53 ∷ 10 ∷ [])))
