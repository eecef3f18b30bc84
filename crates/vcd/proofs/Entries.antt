-- A token of the header leaves the number of declared variables as it is.
-- Assumes nothing.
use mathlib.Core.Bool.{Bool, true, false}
use mathlib.Core.Path.{◌≡◌, refl}
use mathlib.Core.List.{List}
use Prim.Native.Nat.{ℕ}
use lib.Dec.{eqb, ltb}
use Rattle.bits.specs.Byte.{pick}
use Rattle.vcd_text.specs.Token.{Number}
use Rattle.vcd_text.specs.declared.NumberError.TheVariants.{Bad, Big}
use Rattle.std.specs.Prelude.{Ok, Err}
use Rattle.vcd_text.specs.Token.{same_bytes, end_word, decimal_of}
use Rattle.vcd_codes.specs.Codes.{variables}
use Rattle.vcd_keywords.specs.declared.Keyword.{Keyword}
use Rattle.vcd_keywords.specs.declared.Keyword.TheVariants as keyword
use Rattle.vcd_keywords.specs.declared.Sort.{Sort}
use Rattle.vcd_keywords.specs.declared.Sort.TheVariants.{Digital, Real, Neither}
use Rattle.vcd_header.specs.declared.Section.{Section}
use Rattle.vcd_header.specs.declared.Section.TheVariants.{Outside, Text, Count, Letters, UnitEnd, ScopeType, ScopeName, VarType, VarSize, VarCode, VarName, VarIndex, Closing, Ending}
use Rattle.vcd_header.specs.declared.Head.{Head}
use Rattle.vcd_keywords.specs.Words.{keyword_of, count_of, letters_of, joined_of, is_scope, sort_of, index_state}
use Rattle.vcd_header.specs.Header.{closed_by, keyword_step, text_step, count_step, letters_step, unit_step, scope_step, is_name, scope_name_step, type_as, size_as, code_step, name_step, whole_step, index_step, ending_step, step_as, end_as}
use Rattle.vcd.specs.Header.{heading, settled}

either : (q : Bool) (x y : Head) (n : ℕ) → x.entries ≡ n → y.entries ≡ n → (pick q x y).entries ≡ n
either true x y n e f = e
either false x y n e f = f

keyword_keeps : (k : Keyword) (h : Head) (p : ℕ) → (keyword_step k h p).entries ≡ h.entries
unfolding keyword_step
keyword_keeps keyword.Text h p = refl
keyword_keeps keyword.Timescale h p = refl
keyword_keeps keyword.Scope h p = refl
keyword_keeps keyword.Upscope h p = refl
keyword_keeps keyword.Var h p = refl
keyword_keeps keyword.Enddefinitions h p = refl
keyword_keeps keyword.Unknown h p = refl

type_keeps : (s : Sort) (h : Head) → (type_as s h).entries ≡ h.entries
unfolding type_as
type_keeps Digital h = refl
type_keeps Real h = refl
type_keeps Neither h = refl

size_keeps : (n : Number) (h : Head) → (size_as n h).entries ≡ h.entries
unfolding size_as
size_keeps (Err Bad) h = refl
size_keeps (Err Big) h = refl
size_keeps (Ok n) h = refl

whole_keeps : (h : Head) → (whole_step h).entries ≡ h.entries
unfolding whole_step
whole_keeps h = either (eqb h.variable.index 0) _ _ _ refl (either (eqb h.variable.index 7) _ _ _ refl refl)

step_keeps : (section : Section) (t : List ℕ) (h : Head) (p e : ℕ) → (step_as section t h p e).entries ≡ h.entries
unfolding step_as closed_by text_step count_step letters_step unit_step scope_step scope_name_step code_step name_step index_step ending_step
step_keeps Outside t h p e = keyword_keeps (keyword_of t) h p
step_keeps Text t h p e = either (same_bytes t end_word) _ _ _ refl refl
step_keeps Count t h p e = either (same_bytes t end_word) _ _ _ refl (either (ltb 0 (count_of t)) _ _ _ refl (either (ltb 0 (joined_of t)) _ _ _ refl refl))
step_keeps Letters t h p e = either (ltb 0 (letters_of t)) _ _ _ refl refl
step_keeps UnitEnd t h p e = either (same_bytes t end_word) _ _ _ refl refl
step_keeps ScopeType t h p e = either (is_scope t) _ _ _ refl refl
step_keeps ScopeName t h p e = either (is_name t) _ _ _ refl refl
step_keeps VarType t h p e = type_keeps (sort_of t) h
step_keeps VarSize t h p e = size_keeps (decimal_of t) h
step_keeps VarCode t h p e = either (is_name t) _ _ _ refl refl
step_keeps VarName t h p e = either (is_name t) _ _ _ refl refl
step_keeps VarIndex t h p e = either (same_bytes t end_word) _ _ _ (whole_keeps h) (either (eqb (index_state h.variable.index t) 9) _ _ _ refl refl)
step_keeps Closing t h p e = either (same_bytes t end_word) _ _ _ refl refl
step_keeps Ending t h p e = either (same_bytes t end_word) _ _ _ refl refl

end_keeps : (section : Section) (h : Head) (size : ℕ) → (end_as section h size).entries ≡ h.entries
unfolding end_as
end_keeps Outside h size = refl
end_keeps Text h size = refl
end_keeps Count h size = refl
end_keeps Letters h size = refl
end_keeps UnitEnd h size = refl
end_keeps ScopeType h size = refl
end_keeps ScopeName h size = refl
end_keeps VarType h size = refl
end_keeps VarSize h size = refl
end_keeps VarCode h size = refl
end_keeps VarName h size = refl
end_keeps VarIndex h size = refl
end_keeps Closing h size = refl
end_keeps Ending h size = refl

module _ (text places pins : List ℕ) (n h : Head) where
  pub step_so : (section : Section) (t : List ℕ) (p e : ℕ) → n ≡ step_as section t h p e
      → settled text (heading n (variables text places pins 0 n.entries)) ≡ settled text (heading (step_as section t h p e) (variables text places pins 0 h.entries))
  step_so section t p e q = rw (q, step_keeps section t h p e) refl

  pub end_so : (section : Section) (size : ℕ) → n ≡ end_as section h size
      → heading n (variables text places pins 0 n.entries) ≡ heading (end_as section h size) (variables text places pins 0 h.entries)
  end_so section size q = rw (q, end_keeps section h size) refl
