-- The limits of document 01, and the size of a tree node in a proof's words, each named once.
use Rattle.std.specs.Prelude.{ℕ}

-- "at most 2,048" nodes, "0 to 8 children", "at most 256 rules", "1 to 64 items a side", "at most 16 variables"
abbrev pub node_limit : ℕ
node_limit = 2048

abbrev pub child_limit : ℕ
child_limit = 8

abbrev pub rule_limit : ℕ
rule_limit = 256

abbrev pub item_limit : ℕ
item_limit = 64

abbrev pub variable_limit : ℕ
variable_limit = 16

-- 10: "distance above 16,383"; 19: "over 1,048,576 words, or over 16,384 terms", the first of which is also 11's
abbrev pub distance_limit : ℕ
distance_limit = 16383

abbrev pub term_limit : ℕ
term_limit = 16384

abbrev pub word_limit : ℕ
word_limit = 1048576

-- 1: a line "exceeds 8,192 digits"; "the program's area is 32,768 words"
abbrev pub digit_limit : ℕ
digit_limit = 8192

abbrev pub program_area : ℕ
program_area = 32768

-- A proof's words: "four a tree node"
abbrev pub flat_words : ℕ
flat_words = 4
