-- `chain::stock::factory` meets its contract: a number past 2 is refused, and each of the three others is computed from the tables.
use Rattle.std.proofs.Common.{◌≡◌, refl, Ok, List, [], ◌∷◌, ℕ, zero, suc, ◌+◌, ◌*◌, ◌≤◌, arith, lt-ltb, get_or, set, replicate}
use Rattle.words.specs.Rows.{none}
use Rattle.words.specs.Table.{tab}
use Rattle.words.specs.declared.Queue.{Queue}
use Rattle.chain.specs.Refusals.{or_else, first}
use Rattle.chain.specs.Record.{answered}
use Rattle.chain.specs.Said.{chain_said}
use Rattle.chain.specs.Factory.{queue, factory_refusal, factory_answer}
use Rattle.chain.proofs.stock.factory.Goals as goal

-- the code's tables, two places to a chain
abbrev counts : List ℕ
counts = 1 ∷ 2 ∷ 2 ∷ []

abbrev periods : List ℕ
periods = 10 ∷ 5 ∷ 100 ∷ []

abbrev rows : List Queue
rows = queue 4 7 3 0 ∷ none ∷ queue 4 7 3 0 ∷ queue 3 4 2 0 ∷ queue 16 64 16 0 ∷ queue 1 8 8 0 ∷ []

abbrev times : List ℕ
times = 2 ∷ 0 ∷ 1 ∷ 1 ∷ 5 ∷ 3 ∷ []

-- what the code makes of the tables at each number is the chain that the scope names
made-is : (k : ℕ) → k ≤ 2 → chain_said (Ok (record { n = get_or counts k 0; period = get_or periods k 0; queues = set (set (replicate 16 none) 0 (get_or rows (2 * k) none)) 1 (get_or rows (2 * k + 1) none); work = set (set (replicate 16 0) 0 (get_or times (2 * k) 0)) 1 (get_or times (2 * k + 1) 0) })) ≡ factory_answer k
unfolding factory_answer answered factory_refusal first or_else tab
made-is zero h = refl
made-is (suc zero) h = refl
made-is (suc (suc zero)) h = refl
made-is (suc (suc (suc k))) h = absurd (omega arith)

pub returns-then-number-gt2 : goal.returns-then-number-gt2
unfolding factory_answer answered factory_refusal first or_else
returns-then-number-gt2 c = simp (lt-ltb _ _ c.if-number-gt2.true)

pub returns : goal.returns
returns c = made-is _ c.if-number-gt2.false
