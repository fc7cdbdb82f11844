-- The sums of a list of losses (02, Item 2), as one pass over it makes them.
--   most_tokens              the most tokens that the entries of a list can have in all
--   TallyGives n l r         what the code gives: 17 of the list, and where it is silent the tokens that each queue lost
use Rattle.std.specs.Prelude.{◌≡◌, List, ℕ, ◌*◌, ◌≤◌, ◌<◌, get_or, Result, IfOk}
use Rattle.chain.specs.Said.{said}
use Rattle.chain.specs.declared.reasons.Refused.{Refused}
use Rattle.losses.specs.Losses.{longest_list, lost}
use Rattle.losses.specs.Checks.{list_check}
use Rattle.losses.specs.declared.Losses.{Losses}

-- 256 entries of at most 4,294,967,295 tokens
abbrev pub most_tokens : ℕ
most_tokens = longest_list * 4294967295

-- "17's balance counts the entries": whether the list is refused, and the sums, none of which is above what the list can hold
pub record TallyGives (n : ℕ) (l : Losses) (r : Result (List ℕ) Refused) : Type 0 where
  pub says : said r ≡ list_check n l
  pub sums : IfOk r (λ x. (j : ℕ) → j < 16 → get_or x j 0 ≡ lost l j)
  pub few : IfOk r (λ x. (j : ℕ) → j < 16 → get_or x j 0 ≤ most_tokens)
