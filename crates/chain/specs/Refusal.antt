-- A refusal as 01 has it.
--   Refusal              a number with its place; number 0 says nothing
use Rattle.std.specs.Prelude.{ℕ}

-- "a refusal gives number and place"
pub record Refusal : Type 0 where
  pub number : ℕ
  pub place : ℕ
