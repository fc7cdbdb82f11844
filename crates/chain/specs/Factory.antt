-- The three factory chains (01, Chain file: "three factory chains, asked for by number, are fixed in the product").
--   queue p τ c b      a queue row with its reserved word 0
--   made y rows work   the chain of a period, its rows and its execution times, slots past n zero
--   factory_chains     01's table, row by row
--   factory_check k    14: no such factory chain
--   factory_refusal k, factory_answer k
--                      what the factory refuses, and answers, to any number
--   factory_exact      14 is said exactly under its condition
--   trimmed_factory    a chain that the factory gives has its slots past n zero
use Rattle.std.proofs.Math.Logic.Iff
use Rattle.std.specs.Prelude.{◌≡◌, refl, ◌↔◌, List, [], ◌∷◌, ℕ, zero, suc, ◌<◌, leb, length, get_or}
use Rattle.std.proofs.Common.{arith}
use Rattle.words.specs.Rows.{none}
use Rattle.words.specs.Table.{tab, slots}
use Rattle.words.specs.declared.Queue.{Queue}
use Rattle.chain.specs.Tests.{below_true}
use Rattle.chain.specs.Refusals.{refused, test, first, test_exact, says_last}
use Rattle.chain.specs.Record.{empty_chain, trimmed, answered, trimmed_answer}
use Rattle.chain.specs.Refusal.{Refusal}
use Rattle.chain.specs.declared.Chain.{Chain}
use Rattle.chain.specs.declared.ChainAnswer.{ChainAnswer}

abbrev pub queue : ℕ → ℕ → ℕ → ℕ → Queue
queue p τ c b = record { produce = p; threshold = τ; consume = c; capacity = b; reserved = 0 }

abbrev pub made : ℕ → List Queue → List ℕ → Chain
made y rows work = record { n = length rows; period = y; queues = slots (λ i. get_or rows i none) none 16 (length rows); work = slots (λ i. get_or work i 0) 0 16 (length rows) }

-- 0 Feed, 1 Permeate, 2 Flush: y, queues (p, τ, c, B), e
abbrev pub factory_chains : List Chain
factory_chains =
    made 10 (queue 4 7 3 0 ∷ []) (2 ∷ [])
    ∷ made 5 (queue 4 7 3 0 ∷ queue 3 4 2 0 ∷ []) (1 ∷ 1 ∷ [])
    ∷ made 100 (queue 16 64 16 0 ∷ queue 1 8 8 0 ∷ []) (5 ∷ 3 ∷ [])
    ∷ []

-- 14: "no such factory chain", place "number asked"
abbrev pub factory_check : ℕ → Refusal
factory_check k = test 14 k (leb (length factory_chains) k)

unfoldable pub factory_refusal : ℕ → Refusal
unfolding first
factory_refusal k = first (factory_check k ∷ [])

unfoldable pub factory_answer : ℕ → ChainAnswer
unfolding answered factory_refusal tab
factory_answer k = answered (factory_refusal k) (get_or factory_chains k empty_chain)

pub factory_exact : (L k : ℕ) → (factory_refusal k ≡ refused 14 L) ↔ ((2 < k) × (L ≡ k))
unfolding factory_refusal
factory_exact L k = Iff.trans (says_last 14 L (λ e. omega arith) (factory_check k)) (Iff.trans (test_exact 14 L k (λ e. omega arith) _) (Iff.and (below_true 2 k) Iff.rfl))

-- a chain that the factory gives has its slots past n zero
pub trimmed_factory : (k : ℕ) → trimmed (factory_answer k).chain ≡ (factory_answer k).chain
unfolding factory_answer trimmed
trimmed_factory k = trimmed_answer (factory_refusal k) (get_or factory_chains k empty_chain) (by k)
  where
    by : (k : ℕ) → trimmed (get_or factory_chains k empty_chain) ≡ get_or factory_chains k empty_chain
    by zero = refl
    by (suc zero) = refl
    by (suc (suc zero)) = refl
    by (suc (suc (suc k))) = refl
