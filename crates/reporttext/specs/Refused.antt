-- The line of a refusal (01, Report program: "a refusal prints only the line `refused,number,place`").
--   refusal_word      `refused,`
--   refusal_text N L  the line's bytes
--   longest_refusal   bytes enough for every such line
use Rattle.std.specs.Prelude.{List, ◌++◌, ℕ, ◌+◌, ◌*◌, length}
use Rattle.words.specs.Literal.{text}
use Rattle.decimal.specs.Digits.{column}
use Rattle.reporttext.specs.Short.{longest_column}

abbrev pub refusal_word : List ℕ
refusal_word = text "refused,"

-- "refused", the number and the place, a comma between them and a line feed behind
unfoldable pub refusal_text : ℕ → ℕ → List ℕ
unfolding column
refusal_text N L = refusal_word ++ (column N 44 ++ column L 10)

-- the word with its comma, and two numbers
abbrev pub longest_refusal : ℕ
longest_refusal = length refusal_word + 2 * longest_column
