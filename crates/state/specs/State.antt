-- The run state (01, Firing).
--   count_at s i             how often N_i has fired
--   held_at s i               what queue i holds
--   done_at s i              the ticks that N_(i+1) has worked on the firing that it has begun
--   empty_run                the state of a refused call: all zero
--   fresh_run c              a fresh start; fresh_empty: which is the same, since every queue starts empty
--   zeros                    every slot of a list of zeros, and past its end, is 0
--   fresh_count, fresh_held  then no node has fired, and each queue holds what it starts with
--   answered r s t           the answer of a call: the refusal r with the state s, or the state t where r is silent
--   refused_with N L s       the answer of a call that is refused with number N and place L
--   answered_refused, _fine  its two cases
--   run_said s o             the answer that a result makes which is a state or an error
--   run_alike                no two results make the same
--   said_answered            which is the call's, of what the result says; answered_error, _ok: its two cases
--   same_run                 states of equal parts are equal
use Rattle.std.specs.Prelude.{◌≡◌, refl, cond, Result, IfOk, List, ℕ, zero, suc, ◌<◌, eqb, get_or, replicate}
use Rattle.std.proofs.Common.{Ok, Err, sym, ap, arith, ne_eqb}
use Rattle.std.proofs.lemmas.List.{length-replicate, get_or-replicate}
use Rattle.words.specs.Table.{tab, slots, is_slots, slot_used}
use Rattle.chain.specs.Refusals.{refused, fine, Silent}
use Rattle.chain.specs.Record.{row_of}
use Rattle.chain.specs.Sound.{Sound}
use Rattle.chain.specs.Refusal.{Refusal}
use Rattle.chain.specs.Said.{code, refusal, said, refusal_alike, speaks}
use Rattle.chain.specs.declared.Chain.{Chain}
use Rattle.chain.specs.declared.reasons.Refused.{Refused}
use Rattle.sizing.specs.Sizes.{start}
use Rattle.state.specs.declared.Run.{Run}
use Rattle.state.specs.declared.RunAnswer.{RunAnswer}

-- how often N_i has fired
abbrev pub count_at : Run → ℕ → ℕ
count_at s i = get_or s.counts i 0

-- what queue i holds
abbrev pub held_at : Run → ℕ → ℕ
held_at s i = get_or s.held i 0

-- the work done of N_(i+1), the node that queue i feeds
abbrev pub done_at : Run → ℕ → ℕ
done_at s i = get_or s.done i 0

-- "all other results zero"
abbrev pub empty_run : Run
empty_run = record { clock = 0; counts = replicate 17 0; held = replicate 16 0; done = replicate 16 0 }

-- nothing has fired, no work is done, and each queue holds what it starts with
unfoldable pub fresh_run : Chain → Run
unfolding tab
fresh_run c = record { clock = 0; counts = replicate 17 0; held = slots (λ i. start (row_of c i)) 0 16 c.n; done = replicate 16 0 }

-- "every queue starts empty"
pub fresh_empty : (c : Chain) → empty_run ≡ fresh_run c
unfolding fresh_run
fresh_empty c =
    ap (λ (h : List ℕ). record { clock = 0; counts = replicate 17 0; held = h; done = replicate 16 0 })
    (is_slots (λ i. start (row_of c i)) 0 16 c.n 0 (replicate 16 0) (length-replicate {A = ℕ} 16 0) (λ i l h. get_or-replicate {A = ℕ} 16 i 0 0 l) (λ i l h. get_or-replicate {A = ℕ} 16 i 0 0 l))

pub zeros : (n i : ℕ) → ◌≡◌ {A = ℕ} (get_or (replicate n 0) i 0) 0
zeros zero i = refl
zeros (suc n) zero = refl
zeros (suc n) (suc i) = zeros n i

pub fresh_count : (c : Chain) (i : ℕ) → count_at (fresh_run c) i ≡ 0
unfolding fresh_run
fresh_count c i = zeros 17 i

pub fresh_held : {c : Chain} → Sound c → (j : ℕ) → j < c.n → held_at (fresh_run c) j ≡ start (row_of c j)
unfolding fresh_run
fresh_held {c} k j l = slot_used (λ i. start (row_of c i)) 0 16 c.n j 0 (omega (arith, k.count.1)) l

-- "a refusal gives number and place, .. run state as before": s is what is given back then, t what a call that is not refused makes
unfoldable pub answered : Refusal → Run → Run → RunAnswer
answered r s t = record { number = r.number; place = r.place; run = cond (eqb r.number 0) t s }

-- the answer of a call that is refused with number N and place L
abbrev pub refused_with : ℕ → ℕ → Run → RunAnswer
refused_with N L s = record { number = N; place = L; run = s }

-- the answer that a result makes which is a state or an error, s being given back then
abbrev pub run_said : Run → Result Run Refused → RunAnswer
run_said s (Ok t) = record { number = 0; place = 0; run = t }
run_said s (Err e) = refused_with (code e.reason) e.place s

-- equal answers come from equal results
pub run_alike : (s : Run) (r t : Result Run Refused) → run_said s r ≡ run_said s t → r ≡ t
run_alike s (Ok x) (Ok y) e = ap Ok (ap (λ (a : RunAnswer). a.run) e)
run_alike s (Ok x) (Err f) e = absurd (speaks f (ap (λ (a : RunAnswer). a.number) (sym e)))
run_alike s (Err d) (Ok y) e = absurd (speaks d (ap (λ (a : RunAnswer). a.number) e))
run_alike s (Err d) (Err f) e = ap Err (refusal_alike d f (ap (λ (a : RunAnswer). refused a.number a.place) e))

pub answered_refused : (r : Refusal) (s t : Run) → (Silent r → ⊥) → refused_with r.number r.place s ≡ answered r s t
unfolding answered
answered_refused r s t h = simp (ne_eqb _ _ h)

pub answered_fine : {r : Refusal} (s t : Run) → fine ≡ r → record { number = 0; place = 0; run = t } ≡ answered r s t
unfolding answered
answered_fine s t e = rw (← e)

-- a result's answer is the call's, of what the result says; an Ok result has the state that the call makes
pub said_answered : (s t : Run) (o : Result Run Refused) → IfOk o (λ (u : Run). u ≡ t) → run_said s o ≡ answered (said o) s t
said_answered s t (Ok u) e = rw e (answered_fine s t refl)
said_answered s t (Err e) _ = answered_refused (refusal e) s t (speaks e)

pub answered_error : (e : Refused) (s t : Run) → answered (refusal e) s t ≡ run_said s (Err e)
answered_error e s t = sym (said_answered s t (Err e) tt)

pub answered_ok : (s t : Run) → answered fine s t ≡ run_said s (Ok t)
answered_ok s t = sym (said_answered s t (Ok t) refl)

pub same_run : {s t : Run} → s.clock ≡ t.clock → s.counts ≡ t.counts → s.held ≡ t.held → s.done ≡ t.done → s ≡ t
same_run k a h d = λ i. record { clock = k i; counts = a i; held = h i; done = d i }
