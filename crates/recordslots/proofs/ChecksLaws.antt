-- 17 of a state with its list reads neither slots past n nor entries past the count (02, Item 2).
--   entries_alike, lost_sum_alike  lists that differ in slots past the count only have the same entries, and have lost the same of each queue
--   list_alike, rec_state_alike
--                              so 17 says the same of them, and of states and chains that differ in slots past n only
use Rattle.std.specs.Prelude.{◌≡◌, ℕ, suc, ◌+◌, ◌*◌, ◌<◌, eqb, leb, ltb}
use Rattle.std.proofs.Math.Path.{ap, ap₂}
use Rattle.std.proofs.Common.{◌∙◌, arith}
use Rattle.words.specs.Table.{tab, tab_alike}
use Rattle.chain.specs.Refusals.{test, first, or_else}
use Rattle.chain.specs.declared.Chain.{Chain}
use Rattle.sizing.specs.Sizes.{start}
use Rattle.state.specs.Checks.{broken_unless, queue_test}
use Rattle.state.specs.Fired.{supplied}
use Rattle.state.specs.declared.Run.{Run}
use Rattle.slots.specs.Chains.{AlikeChains}
use Rattle.slots.specs.Runs.{AlikeRuns}
use Rattle.losses.specs.Losses.{longest_list, entry_at, entries_in, lost_in, lost}
use Rattle.losses.specs.Checks.{stray_test, stray_check, list_check}
use Rattle.losses.specs.declared.Loss.{Loss}
use Rattle.losses.specs.declared.Losses.{Losses}
use Rattle.recordings.specs.Checks.{rec_accounted, rec_queues_check, rec_state_check}
use Rattle.recordslots.specs.Lists.{AlikeLosses}

module _ {l m : Losses} (a : AlikeLosses l m) where
  pub entries_alike : entries_in l ≡ entries_in m
  entries_alike = tab_alike l.count (entry_at l) (entry_at m) a.entries ∙ ap (λ (k : ℕ). tab k (entry_at m)) a.count

  pub lost_sum_alike : (j : ℕ) → lost l j ≡ lost m j
  lost_sum_alike j = ap (lost_in j) entries_alike

  -- the length of the list, and its entries
  pub list_alike : (n : ℕ) → list_check n l ≡ list_check n m
  unfolding list_check stray_check
  list_alike n = ap₂ or_else (ap (λ (k : ℕ). test 17 0 (ltb longest_list k)) a.count)
      (ap first (tab_alike l.count (stray_test n l) (stray_test n m) (λ k h. ap (λ (e : Loss). test 17 0 (leb n e.queue)) (a.entries k h)) ∙ ap (λ (k : ℕ). tab k (stray_test n m)) a.count))

-- the list, and then every queue
pub rec_state_alike : {c d : Chain} → AlikeChains c d → {s t : Run} → AlikeRuns c.n s t → {l m : Losses} → AlikeLosses l m → rec_state_check c s l ≡ rec_state_check d t m
unfolding rec_state_check rec_queues_check
rec_state_alike {c} {d} a {s} {t} r {l} {m} b = ap₂ or_else
    (list_alike b c.n ∙ ap (λ (n : ℕ). list_check n m) a.n)
    (ap first (tab_alike c.n (queue_test c s (supplied c s) (rec_accounted c s l)) (queue_test d t (supplied d t) (rec_accounted d t m)) each
    ∙ ap (λ (n : ℕ). tab n (queue_test d t (supplied d t) (rec_accounted d t m))) a.n))
  where
    each : (i : ℕ) → i < c.n → queue_test c s (supplied c s) (rec_accounted c s l) i ≡ queue_test d t (supplied d t) (rec_accounted d t m) i
    each i h =
        let q = a.rows i h in
        let own = r.counts i (omega arith) in
        let next = r.counts (suc i) h in
        let x = r.held i h in
        let y = lost_sum_alike b i in
        λ k. test 17 i (broken_unless (eqb (start (q k) + (q k).produce * own k) (x k + (q k).consume * next k + y k)) (q k) (a.work i h k) (x k) (r.done i h k))
