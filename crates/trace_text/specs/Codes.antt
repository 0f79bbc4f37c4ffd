-- The characters of a line by their codes, and how many lines a trace has.
use Rattle.std.specs.Prelude.{ℕ}
use Rattle.trace_text.specs.declared.fault.TheConstants.{MAX_LINES}

-- LF, which ends a line
abbrev pub line_feed : ℕ
line_feed = 10

abbrev pub space : ℕ
space = 32

abbrev pub hyphen : ℕ
hyphen = 45

abbrev pub closing_bracket : ℕ
closing_bracket = 93

abbrev pub letter_I : ℕ
letter_I = 73

abbrev pub letter_O : ℕ
letter_O = 79

abbrev pub letter_P : ℕ
letter_P = 80

abbrev pub letter_V : ℕ
letter_V = 86

-- how many lines a trace has at most
abbrev pub most_lines : ℕ
most_lines = MAX_LINES
