-- The chain record: its rows, its execution times, and the slots that no queue has.
--   row_of c i, work_of c i   queue i's row, and the execution time e of the node it feeds, N_(i+1)
--   empty_chain              the chain of a refused call: all zero
--   trimmed c                the chain c with its slots past n zero
--   answered r c             the answer of a call that makes a chain: the refusal r, or c where r is silent
--   refused_alike            a refused answer does not depend on the chain made
--   answered_fine            an answer that is not refused
--   same_chain               chains of equal parts are equal
--   trimmed_answer           the chain of an answer has its slots past n zero where the chain made has
use Rattle.std.specs.Prelude.{◌≡◌, refl, Bool, true, false, cond, ℕ, eqb, get_or, replicate}
use Rattle.std.proofs.Common.{ne_eqb}
use Rattle.words.specs.Rows.{none}
use Rattle.words.specs.Table.{tab, slots}
use Rattle.words.specs.declared.Queue.{Queue}
use Rattle.chain.specs.Refusals.{fine, Silent}
use Rattle.chain.specs.Refusal.{Refusal}
use Rattle.chain.specs.declared.Chain.{Chain}
use Rattle.chain.specs.declared.ChainAnswer.{ChainAnswer}

-- queue i's row
abbrev pub row_of : Chain → ℕ → Queue
row_of c i = get_or c.queues i none

-- the execution time e of N_(i+1)
abbrev pub work_of : Chain → ℕ → ℕ
work_of c i = get_or c.work i 0

-- "all other results zero"
abbrev pub empty_chain : Chain
empty_chain = record { n = 0; period = 0; queues = replicate 16 none; work = replicate 16 0 }

-- the first n slots as they are, the slots past n zero
unfoldable pub trimmed : Chain → Chain
unfolding tab
trimmed c = record { n = c.n; period = c.period; queues = slots (row_of c) none 16 c.n; work = slots (work_of c) 0 16 c.n }

-- "a refusal gives number and place, all other results zero"
unfoldable pub answered : Refusal → Chain → ChainAnswer
answered r c = record { number = r.number; place = r.place; chain = cond (eqb r.number 0) c empty_chain }

-- a refused answer does not depend on the chain that was made
pub refused_alike : (r : Refusal) (c d : Chain) → (Silent r → ⊥) → answered r c ≡ answered r d
unfolding answered
refused_alike r c d h = simp (ne_eqb _ _ h)

pub answered_fine : {s : Refusal} (c : Chain) → fine ≡ s → record { number = 0; place = 0; chain = c } ≡ answered s c
unfolding answered
answered_fine c e = rw (← e)

-- chains of equal parts are equal
pub same_chain : {c d : Chain} → c.n ≡ d.n → c.period ≡ d.period → c.queues ≡ d.queues → c.work ≡ d.work → c ≡ d
same_chain n y q w = λ i. record { n = n i; period = y i; queues = q i; work = w i }

-- the chain of an answer is the one made, or the empty one
pub trimmed_answer : (r : Refusal) (c : Chain) → trimmed c ≡ c → trimmed (answered r c).chain ≡ (answered r c).chain
unfolding answered trimmed
trimmed_answer r c e = by (eqb r.number 0)
  where
    by : (b : Bool) → trimmed (cond b c empty_chain) ≡ cond b c empty_chain
    by true = e
    by false = refl
