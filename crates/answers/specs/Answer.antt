-- Answer words (document 01, "Event words").
use Rattle.std.specs.Prelude.{ℕ, ◌+◌, ◌*◌, ◌/◌, ◌%◌, Bool, eqb}
use Rattle.bits.specs.Byte.{num}
use Rattle.answers.specs.declared.AnswerFields.{AnswerFields}

-- "Event words", answers: the word with these parts; bits 23..17 are 0
abbrev pub answer_word : ℕ → Bool → ℕ → ℕ → ℕ
answer_word number watchdog requests byte = number * 16777216 + num watchdog * 65536 + requests * 256 + byte

-- "Event words", answers: the four parts of a word
abbrev pub answer_fields : ℕ → AnswerFields
answer_fields word = record {
  number = word / 16777216;
  watchdog = eqb (word / 65536 % 2) 1;
  requests = word / 256 % 256;
  byte = word % 256;
}
