-- Laws of specs/Sizes.antt that rest on a definition which an edit of must-fail/ changes.
-- The analysis of a chain (01, Rates, load, minimum): its queues one by one, and its load.
--   margin_unwritten, _written
--                            the margin where the file says 0, and where it says a capacity
--   sized_fine               an answer that is not refused
--   sized_said               what such an answer says is the refusal that it was made of
--   analysis_refused, _given  the two cases of what a result says
--   size_at                  what the analysis says of queue i
use Rattle.std.specs.Prelude.{◌≡◌, ◌≢◌, ℕ, ◌<◌, ◌≤◌, get_or, pos}
use Rattle.std.proofs.Common.{Ok, Err, ◌∙◌, ap, arith, ne_eqb}
use Rattle.words.specs.Table.{slot_used}
use Rattle.words.specs.declared.Queue.{Queue}
use Rattle.chain.specs.Refusals.{refused, fine, Silent}
use Rattle.chain.specs.Refusal.{Refusal}
use Rattle.chain.specs.declared.Chain.{Chain}
use Rattle.onequeue.specs.Capacity.{margin}
use Rattle.onequeue.proofs.CapacityLaws.{capacity_written, margin_zero}
use Rattle.chain.specs.Said.{refusal, speaks}
use Rattle.chain.specs.declared.reasons.Refused.{Refused}
use Rattle.sizing.specs.declared.Analysis.{Analysis}
use Rattle.sizing.specs.declared.AnalysisAnswer.{AnalysisAnswer}
use Rattle.sizing.specs.Sizes.{minimum_of, margin_of, size_of, no_size, analysis_of, analysis_said, sized, refused_with}

pub margin_unwritten : (q : Queue) → q.capacity ≡ 0 → margin_of q ≡ pos 0
margin_unwritten q e = rw e (margin_zero (minimum_of q))

pub margin_written : (q : Queue) → q.capacity ≢ 0 → margin_of q ≡ margin q.capacity (minimum_of q)
margin_written q n = ap (λ (k : ℕ). margin k (minimum_of q)) (capacity_written q.capacity (minimum_of q) n)

pub sized_refused : (r : Refusal) (c : Chain) → (Silent r → ⊥) → refused_with r.number r.place ≡ sized r c
unfolding sized
sized_refused r c h = simp (ne_eqb _ _ h)

pub sized_fine : {r : Refusal} (c : Chain) → fine ≡ r → record { number = 0; place = 0; analysis = analysis_of c } ≡ sized r c
unfolding sized
sized_fine c e = rw (← e)

-- an error is answered as the refusal that it is, and the analysis as none
pub analysis_refused : (e : Refused) {r : Refusal} (c : Chain) → refusal e ≡ r → analysis_said (Err e) ≡ sized r c
analysis_refused e c g = sized_refused (refusal e) c (speaks e) ∙ ap (λ (r : Refusal). sized r c) g

pub analysis_given : {r : Refusal} {a : Analysis} (c : Chain) → fine ≡ r → a ≡ analysis_of c → analysis_said (Ok a) ≡ sized r c
analysis_given c z e = rw e (sized_fine c z)

pub sized_said : {a : AnalysisAnswer} (r : Refusal) (c : Chain) → a ≡ sized r c → refused a.number a.place ≡ r
unfolding sized
sized_said r c e = ap (λ (b : AnalysisAnswer). refused b.number b.place) e

pub size_at : (c : Chain) (i : ℕ) → c.n ≤ 16 → i < c.n → get_or (analysis_of c).queues i no_size ≡ size_of c i
unfolding analysis_of
size_at c i few l = slot_used (size_of c) no_size 16 c.n i no_size (omega arith) l
