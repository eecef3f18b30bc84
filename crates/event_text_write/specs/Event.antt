-- An event word as a line of text (document 01, "Event words"): the name of its kind, the name of its field A, or two digits where it has
-- none, and its B, where the kind has one; `word` and eight digits for any other word.
use Rattle.std.specs.Prelude.{Option, Some, None, ℕ, List, [], ◌∷◌}
use Rattle.bits.specs.Byte.{pick}
use Rattle.events.specs.Word.{field_a, field_b}
use Rattle.event_names.specs.declared.Kind.{Kind}
use Rattle.event_names.specs.declared.Keyword.TheVariants as keyword
use Rattle.event_names.specs.Digits.{hex}
use Rattle.event_names.specs.Names.{kind_shown, shown_of}
use Rattle.line_tokens.specs.Written.{line_of}
use Rattle.event_text_read.specs.Event.{takes_b, digits_b, line_kind}

-- the token of a field B, 0 where the kind has none
unfoldable pub value_token : Kind → ℕ → ℕ
value_token k b = pick (takes_b k) (hex (digits_b k) b) 0

-- the tokens of a line of this kind
unfoldable pub kind_tokens : Kind → ℕ → ℕ → List ℕ
kind_tokens k a b = kind_shown (keyword.Event k) ∷ shown_of k a ∷ value_token k b ∷ []

-- the tokens of a word that has a line of this kind, or of none
unfoldable pub tokens_by : Option Kind → ℕ → List ℕ
tokens_by None word = kind_shown keyword.Word ∷ hex 8 word ∷ 0 ∷ []
tokens_by (Some k) word = kind_tokens k (field_a word) (field_b word)

-- the three tokens of a word's line, 0 for none
unfoldable pub event_tokens : ℕ → List ℕ
event_tokens word = tokens_by (line_kind word) word

-- the line of a word
abbrev pub print : ℕ → List ℕ
print word = line_of (event_tokens word)
