-- The words of a dump's header (IEEE 1364, 18.2.3): keywords, units, types, names and indices.
use Rattle.std.specs.Prelude.{ℕ, ◌+◌, ◌-◌, ◌*◌, Bool, ◌||◌, List, [], ◌∷◌, length, take, drop, eqb, ltb}
use Rattle.bits.specs.Byte.{pick}
use Rattle.vcd_text.specs.Token.{same_bytes}
use Rattle.vcd_keywords.specs.declared.Keyword.{Keyword}
use Rattle.vcd_keywords.specs.declared.Keyword.TheVariants.{Text, Timescale, Scope, Upscope, Var, Enddefinitions, Unknown}
use Rattle.vcd_keywords.specs.declared.Sort.{Sort}
use Rattle.vcd_keywords.specs.declared.Sort.TheVariants.{Digital, Real, Neither}

-- $comment, $date, $version: sections whose words are passed over
abbrev pub is_text : List ℕ → Bool
is_text t =
    same_bytes t (36 ∷ 99 ∷ 111 ∷ 109 ∷ 109 ∷ 101 ∷ 110 ∷ 116 ∷ [])
    || (same_bytes t (36 ∷ 100 ∷ 97 ∷ 116 ∷ 101 ∷ [])
    || (same_bytes t (36 ∷ 118 ∷ 101 ∷ 114 ∷ 115 ∷ 105 ∷ 111 ∷ 110 ∷ [])))

-- these; $timescale; $scope; $upscope; $var; $enddefinitions
unfoldable pub keyword_of : List ℕ → Keyword
keyword_of t =
    pick (is_text t) Text
    (pick (same_bytes t (36 ∷ 116 ∷ 105 ∷ 109 ∷ 101 ∷ 115 ∷ 99 ∷ 97 ∷ 108 ∷ 101 ∷ [])) Timescale
    (pick (same_bytes t (36 ∷ 115 ∷ 99 ∷ 111 ∷ 112 ∷ 101 ∷ [])) Scope
    (pick (same_bytes t (36 ∷ 117 ∷ 112 ∷ 115 ∷ 99 ∷ 111 ∷ 112 ∷ 101 ∷ [])) Upscope
    (pick (same_bytes t (36 ∷ 118 ∷ 97 ∷ 114 ∷ [])) Var
    (pick (same_bytes t (36 ∷ 101 ∷ 110 ∷ 100 ∷ 100 ∷ 101 ∷ 102 ∷ 105 ∷ 110 ∷ 105 ∷ 116 ∷ 105 ∷ 111 ∷ 110 ∷ 115 ∷ [])) Enddefinitions
    Unknown)))))

-- ---- units, in ps

-- 1, 10, 100; 0 for another word
unfoldable pub count_of : List ℕ → ℕ
count_of t =
    pick (same_bytes t (49 ∷ [])) 1
    (pick (same_bytes t (49 ∷ 48 ∷ [])) 10
    (pick (same_bytes t (49 ∷ 48 ∷ 48 ∷ [])) 100
    0))

-- ps, ns, us; 0 for another word
unfoldable pub letters_of : List ℕ → ℕ
letters_of t =
    pick (same_bytes t (112 ∷ 115 ∷ [])) 1
    (pick (same_bytes t (110 ∷ 115 ∷ [])) 1000
    (pick (same_bytes t (117 ∷ 115 ∷ [])) 1000000
    0))

-- so many of a unit
unfoldable pub times_unit : ℕ → ℕ → ℕ
times_unit count letters = pick (eqb count 1) letters (pick (eqb count 10) (letters * 10) (pick (eqb count 100) (letters * 100) 0))

-- number and letters in one word; 0 for another word
unfoldable pub joined_of : List ℕ → ℕ
joined_of t = pick (ltb (length t) 3) 0 (times_unit (count_of (take (length t - 2) t)) (letters_of (drop (length t - 2) t)))

-- ---- types

-- begin, fork, function, module, task
unfoldable pub is_scope : List ℕ → Bool
is_scope t =
    same_bytes t (98 ∷ 101 ∷ 103 ∷ 105 ∷ 110 ∷ [])
    || (same_bytes t (102 ∷ 111 ∷ 114 ∷ 107 ∷ [])
    || (same_bytes t (102 ∷ 117 ∷ 110 ∷ 99 ∷ 116 ∷ 105 ∷ 111 ∷ 110 ∷ [])
    || (same_bytes t (109 ∷ 111 ∷ 100 ∷ 117 ∷ 108 ∷ 101 ∷ [])
    || (same_bytes t (116 ∷ 97 ∷ 115 ∷ 107 ∷ [])))))

-- the nets: wire, tri, triand, trior, trireg, tri0, tri1, wand, wor, supply0, supply1
unfoldable pub is_net : List ℕ → Bool
is_net t =
    same_bytes t (119 ∷ 105 ∷ 114 ∷ 101 ∷ [])
    || (same_bytes t (116 ∷ 114 ∷ 105 ∷ [])
    || (same_bytes t (116 ∷ 114 ∷ 105 ∷ 97 ∷ 110 ∷ 100 ∷ [])
    || (same_bytes t (116 ∷ 114 ∷ 105 ∷ 111 ∷ 114 ∷ [])
    || (same_bytes t (116 ∷ 114 ∷ 105 ∷ 114 ∷ 101 ∷ 103 ∷ [])
    || (same_bytes t (116 ∷ 114 ∷ 105 ∷ 48 ∷ [])
    || (same_bytes t (116 ∷ 114 ∷ 105 ∷ 49 ∷ [])
    || (same_bytes t (119 ∷ 97 ∷ 110 ∷ 100 ∷ [])
    || (same_bytes t (119 ∷ 111 ∷ 114 ∷ [])
    || (same_bytes t (115 ∷ 117 ∷ 112 ∷ 112 ∷ 108 ∷ 121 ∷ 48 ∷ [])
    || (same_bytes t (115 ∷ 117 ∷ 112 ∷ 112 ∷ 108 ∷ 121 ∷ 49 ∷ [])))))))))))

-- reg, event, integer, parameter, time
unfoldable pub is_discrete : List ℕ → Bool
is_discrete t =
    same_bytes t (114 ∷ 101 ∷ 103 ∷ [])
    || (same_bytes t (101 ∷ 118 ∷ 101 ∷ 110 ∷ 116 ∷ [])
    || (same_bytes t (105 ∷ 110 ∷ 116 ∷ 101 ∷ 103 ∷ 101 ∷ 114 ∷ [])
    || (same_bytes t (112 ∷ 97 ∷ 114 ∷ 97 ∷ 109 ∷ 101 ∷ 116 ∷ 101 ∷ 114 ∷ [])
    || (same_bytes t (116 ∷ 105 ∷ 109 ∷ 101 ∷ [])))))

-- real, realtime
abbrev pub is_real : List ℕ → Bool
is_real t =
    same_bytes t (114 ∷ 101 ∷ 97 ∷ 108 ∷ [])
    || (same_bytes t (114 ∷ 101 ∷ 97 ∷ 108 ∷ 116 ∷ 105 ∷ 109 ∷ 101 ∷ []))

-- the 18 types of variables
unfoldable pub sort_of : List ℕ → Sort
sort_of t = pick (is_net t || is_discrete t) Digital (pick (is_real t) Real Neither)

-- ---- names

-- the pins that are read: SDA, SCL, HSYNCI, VSYNCI (document 01, "Event words"); 0 for another name
unfoldable pub pin_of : List ℕ → ℕ
pin_of t =
    pick (same_bytes t (83 ∷ 68 ∷ 65 ∷ [])) 24
    (pick (same_bytes t (83 ∷ 67 ∷ 76 ∷ [])) 25
    (pick (same_bytes t (72 ∷ 83 ∷ 89 ∷ 78 ∷ 67 ∷ 73 ∷ [])) 26
    (pick (same_bytes t (86 ∷ 83 ∷ 89 ∷ 78 ∷ 67 ∷ 73 ∷ [])) 27
    0)))

-- ---- indices: [n] or [m:n], each with or without a minus sign

-- classes of bytes: 0 digit, 1 minus, 2 colon, 3 opening and 4 closing bracket, 5 any other
unfoldable pub index_class : ℕ → ℕ
index_class b =
    pick (ltb b 48) (pick (eqb b 45) 1 5) (pick (ltb b 58) 0 (pick (eqb b 58) 2 (pick (eqb b 91) 3 (pick (eqb b 93) 4 5))))

-- what was read: 0 nothing, 1 a bracket, 2 its minus, 3 its digits, 4 a colon, 5 its minus, 6 its digits, 7 all; 9 no index.
-- State q and class c, as 8 q + c, give the next:
unfoldable pub index_by : ℕ → ℕ
index_by n =
    pick (eqb n 3) 1
    (pick (eqb n 8) 3
    (pick (eqb n 9) 2
    (pick (eqb n 16) 3
    (pick (eqb n 24) 3
    (pick (eqb n 26) 4
    (pick (eqb n 28) 7
    (pick (eqb n 32) 6
    (pick (eqb n 33) 5
    (pick (eqb n 40) 6
    (pick (eqb n 48) 6
    (pick (eqb n 52) 7
    9)))))))))))

abbrev pub index_next : ℕ → ℕ → ℕ
index_next q c = index_by (q * 8 + c)

unfoldable pub index_state : ℕ → List ℕ → ℕ
index_state q [] = q
index_state q (b ∷ rest) = index_state (index_next q (index_class b)) rest
