-- The header of a dump, token by token (IEEE 1364, 18.2.3; Wish 10): sections between keywords and `$end`.
use Rattle.vcd_text.specs.declared.NumberError.TheVariants.{Bad, Big}
use Rattle.std.specs.Prelude.{Ok, Err}
use Rattle.vcd_text.specs.Token.{Number}
use Rattle.std.specs.Prelude.{ℕ, Bool, true, false, List, eqb, ltb}
use Rattle.bits.specs.Byte.{pick}
use Rattle.vcd_text.specs.Token.{same_bytes, all_graphic, end_word, decimal_of}
use Rattle.vcd_keywords.specs.declared.Keyword.{Keyword}
use Rattle.vcd_keywords.specs.declared.Keyword.TheVariants as keyword
use Rattle.vcd_keywords.specs.declared.Sort.{Sort}
use Rattle.vcd_keywords.specs.declared.Sort.TheVariants.{Digital, Real, Neither}
use Rattle.vcd_header.specs.declared.Section.{Section}
use Rattle.vcd_header.specs.declared.Section.TheVariants.{Outside, Text, Count, Letters, UnitEnd, ScopeType, ScopeName, VarType, VarSize, VarCode, VarName, VarIndex, Closing, Ending}
use Rattle.vcd_header.specs.declared.Unit.{Unit}
use Rattle.vcd_header.specs.declared.Pending.{Pending}
use Rattle.vcd_header.specs.declared.Head.{Head}
use Rattle.vcd_keywords.specs.Words.{keyword_of, count_of, letters_of, times_unit, joined_of, is_scope, sort_of, pin_of, index_state}

-- ---- the head with some parts changed

-- another section, entered by the keyword at a place
abbrev pub in_section : Head → Section → ℕ → Head
in_section h section mark = record { mark = mark; entries = h.entries; unit = h.unit; variable = h.variable; close = h.close; section = section }

abbrev pub goes_to : Head → Section → Head
goes_to h section = in_section h section h.mark

abbrev pub with_unit : Head → Section → Unit → Head
with_unit h section unit = record { mark = h.mark; entries = h.entries; unit = unit; variable = h.variable; close = h.close; section = section }

abbrev pub with_variable : Head → Section → Pending → Head
with_variable h section variable = record { mark = h.mark; entries = h.entries; unit = h.unit; variable = variable; close = h.close; section = section }

-- reading stops: by a refusal at a place, or number 0 and the place where the body begins
abbrev pub stops_at : Head → ℕ → ℕ → Head
stops_at h number place = record { mark = h.mark; entries = h.entries; unit = h.unit; variable = h.variable; close = record { place = place; number = number; stop = true }; section = h.section }

-- a fault inside a section is 40 at its keyword
abbrev pub faulty : Head → Head
faulty h = stops_at h 40 h.mark

-- `$end` where the section has to end
unfoldable pub closed_by : List ℕ → Head → Head
closed_by t h = pick (same_bytes t end_word) (in_section h Outside 0) (faulty h)

-- ---- outside a section

unfoldable pub keyword_step : Keyword → Head → ℕ → Head
keyword_step keyword.Text h p = in_section h Text p
keyword_step keyword.Timescale h p = in_section h Count p
keyword_step keyword.Scope h p = in_section h ScopeType p
keyword_step keyword.Upscope h p = in_section h Closing p
keyword_step keyword.Var h p = in_section h VarType p
keyword_step keyword.Enddefinitions h p = in_section h Ending p
keyword_step keyword.Unknown h p = stops_at h 40 p

-- any bytes up to `$end`
unfoldable pub text_step : List ℕ → Head → Head
text_step t h = pick (same_bytes t end_word) (in_section h Outside 0) h

-- ---- $timescale: 40 at the keyword where there is no unit, at the first byte of what is none

unfoldable pub count_step : List ℕ → Head → ℕ → Head
count_step t h p =
    pick (same_bytes t end_word) (faulty h)
    (pick (ltb 0 (count_of t)) (with_unit h Letters (record { first = p; scale = count_of t; unit = h.unit.unit }))
    (pick (ltb 0 (joined_of t)) (with_unit h UnitEnd (record { first = p; scale = joined_of t; unit = h.unit.unit })) (stops_at h 40 p)))

unfoldable pub letters_step : List ℕ → Head → Head
letters_step t h =
    pick (ltb 0 (letters_of t)) (with_unit h UnitEnd (record { first = h.unit.first; scale = times_unit h.unit.scale (letters_of t); unit = h.unit.unit }))
    (stops_at h 40 h.unit.first)

-- the last unit holds
unfoldable pub unit_step : List ℕ → Head → Head
unit_step t h =
    pick (same_bytes t end_word) (with_unit h Outside (record { first = 0; scale = 0; unit = h.unit.scale })) (stops_at h 40 h.unit.first)

-- ---- $scope: a type and a name

unfoldable pub scope_step : List ℕ → Head → Head
scope_step t h = pick (is_scope t) (goes_to h ScopeName) (faulty h)

-- a code or a name: bytes from 21H to 7EH, and not `$end`
unfoldable pub is_name : List ℕ → Bool
is_name t = pick (same_bytes t end_word) false (all_graphic t)

unfoldable pub scope_name_step : List ℕ → Head → Head
scope_name_step t h = pick (is_name t) (goes_to h Closing) (faulty h)

-- ---- $var: type, size, code, name and at most an index

abbrev pub pending : ℕ → ℕ → ℕ → ℕ → Bool → Bool → Pending
pending from to pin index scalar whole = record { from = from; to = to; index = index; pin = pin; scalar = scalar; whole = whole }

unfoldable pub type_as : Sort → Head → Head
type_as Digital h = with_variable h VarSize (pending 0 0 0 0 true false)
type_as Real h = with_variable h VarSize (pending 0 0 0 0 false false)
type_as Neither h = faulty h

-- a scalar has size 1, as a number
unfoldable pub size_as : Number → Head → Head
size_as (Err Bad) h = faulty h
size_as (Err Big) h = with_variable h VarCode (pending 0 0 0 0 false false)
size_as (Ok n) h = with_variable h VarCode (pending 0 0 0 0 (pick (eqb n 1) h.variable.scalar false) false)

-- the code is kept as its first place and the place past its last
unfoldable pub code_step : List ℕ → Head → ℕ → ℕ → Head
code_step t h p e = pick (is_name t) (with_variable h VarName (pending p e 0 0 h.variable.scalar false)) (faulty h)

-- one of the four names is that of a pin if the variable is a scalar
unfoldable pub name_step : List ℕ → Head → Head
name_step t h =
    pick (is_name t)
    (with_variable h VarIndex (pending h.variable.from h.variable.to (pick h.variable.scalar (pin_of t) 0) 0 h.variable.scalar false))
    (faulty h)

-- `$end` ends the variable where no index stands or a whole one
unfoldable pub whole_step : Head → Head
whole_step h =
    pick (eqb h.variable.index 0) (with_variable h Outside (pending h.variable.from h.variable.to h.variable.pin 0 h.variable.scalar true))
    (pick (eqb h.variable.index 7) (with_variable h Outside (pending h.variable.from h.variable.to 0 0 h.variable.scalar true))
    (faulty h))

-- an index may have white space in it. A variable with an index is not the scalar of its name.
unfoldable pub index_step : List ℕ → Head → Head
index_step t h =
    pick (same_bytes t end_word) (whole_step h)
    (pick (eqb (index_state h.variable.index t) 9) (faulty h)
    (with_variable h VarIndex (pending h.variable.from h.variable.to h.variable.pin (index_state h.variable.index t) h.variable.scalar false)))

-- ---- $enddefinitions

-- the body begins after its `$end`
unfoldable pub ending_step : List ℕ → Head → ℕ → Head
ending_step t h e = pick (same_bytes t end_word) (stops_at h 0 e) (faulty h)

-- ---- a token t from place p to place e, by section

unfoldable pub step_as : Section → List ℕ → Head → ℕ → ℕ → Head
step_as Outside t h p e = keyword_step (keyword_of t) h p
step_as Text t h p e = text_step t h
step_as Count t h p e = count_step t h p
step_as Letters t h p e = letters_step t h
step_as UnitEnd t h p e = unit_step t h
step_as ScopeType t h p e = scope_step t h
step_as ScopeName t h p e = scope_name_step t h
step_as VarType t h p e = type_as (sort_of t) h
step_as VarSize t h p e = size_as (decimal_of t) h
step_as VarCode t h p e = code_step t h p e
step_as VarName t h p e = name_step t h
step_as VarIndex t h p e = index_step t h
step_as Closing t h p e = closed_by t h
step_as Ending t h p e = ending_step t h e

-- ---- the end of the file

-- a section that is cut off is 40 at its keyword, a unit without its letters at its number; a file that ends between sections is
-- accepted, and has no body
unfoldable pub end_as : Section → Head → ℕ → Head
end_as Outside h size = stops_at h 0 size
end_as Letters h size = stops_at h 40 h.unit.first
end_as Text h size = faulty h
end_as Count h size = faulty h
end_as UnitEnd h size = faulty h
end_as ScopeType h size = faulty h
end_as ScopeName h size = faulty h
end_as VarType h size = faulty h
end_as VarSize h size = faulty h
end_as VarCode h size = faulty h
end_as VarName h size = faulty h
end_as VarIndex h size = faulty h
end_as Closing h size = faulty h
end_as Ending h size = faulty h

-- before the first token
abbrev pub fresh_head : Head
fresh_head = record {
  mark = 0;
  entries = 0;
  unit = record { first = 0; scale = 0; unit = 0 };
  variable = record { from = 0; to = 0; index = 0; pin = 0; scalar = false; whole = false };
  close = record { place = 0; number = 0; stop = false };
  section = Outside;
}
