-- How much of its input the program has to hold (01, Report program: "reads a chain file from standard input").
--   longest_file     the longest file that 1 lets pass
--   LetPass m        a file of m bytes that 1 lets pass
--   IsPrefixLen n b  n of the bytes b stand at its front, and no more than there are
--   Holds i b n      the first n of the bytes b are what b has room for of the input i
--   Answers b n t    the text t is what is to be printed of every input that b holds so
--   LosesNothing o r b
--                    what is known of the input before, o, is some front of b and what is known to be left, r
--   ReadInto i b n   of the input i the first n bytes stand at the front of b, and none is left unread that b has room for
-- What is named here and not declared stands in proofs/InputLaws.antt.
use Rattle.std.specs.Prelude.{◌≡◌, ◌≢◌, List, ℕ, ◌≤◌, ◌<◌, length, get_or, take}
use Rattle.std.specs.Io.KnownBytes.{Consumes}
use Rattle.std.specs.declared.option.Option.{Option}
use Rattle.ardenquill.specs.Files.{read_answer}
use Rattle.chainreport.specs.Printed.{printed}

-- 1: "length under 20 or over 4,096"
abbrev pub longest_file : ℕ
longest_file = 4096

-- a file of m bytes that 1 lets pass
pub record LetPass (m : ℕ) : Type 0 where
  pub file : List ℕ
  pub long : length file ≡ m
  pub not_1 : (read_answer file).number ≢ 1

-- `&b[..n]` is in bounds and has n bytes
abbrev pub IsPrefixLen : ℕ → List ℕ → Type 0
IsPrefixLen n b = (n ≤ length b) × (n ≡ length (take n b))

-- the whole input, or as much of it as fills b
abbrev pub Holds : List ℕ → List ℕ → ℕ → Type 0
Holds i b n = take n b ≡ take (length b) i

-- nothing is known of an input but what b holds of it, so the text must be right for all of them
abbrev pub Answers : List ℕ → ℕ → List ℕ → Type 0
Answers b n t = (i : List ℕ) → Holds i b n → t ≡ printed i

-- what a read that fails leaves: of the input there is gone what stands at the front of b, and nothing else
abbrev pub LosesNothing : Option (List ℕ) → Option (List ℕ) → List ℕ → Type 0
LosesNothing old new b = (n : ℕ) × ((n ≤ length b) × Consumes old new (take n b))

-- "reads a chain file from standard input", byte by byte: those at the front of b are the input's, and there are fewer than the input has only where b is full
pub record ReadInto (i b : List ℕ) (n : ℕ) : Type 0 where
  pub bytes : (k : ℕ) → k < n → get_or b k 0 ≡ get_or i k 0
  pub within : n ≤ length i
  pub rest : n < length i → n ≡ length b
