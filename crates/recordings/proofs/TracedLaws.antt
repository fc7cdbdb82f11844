-- Laws of specs/Traced.antt that rest on a definition which an edit of must-fail/ changes.
-- A recording run from a fresh start with an empty list, by the history of its firings (02, Item 2).
--   rec_leads                  they lead from a fresh start to what it leaves
--   rec_fair, rec_after_law    a production is lost exactly where it does not fit, and counts and contents after the firings are the run's
--   rec_counted                each node has fired as often as it stands in the trace, lost or not
--   rec_entries                the entries are what the lost firings lose, in order: none is invented, none missing
--   rec_count, rec_entry       so there are as many, and entry k is the k-th of them
--   rec_balance                tokens produced equal tokens consumed, held, and the sum of that queue's entries
--   rec_rising                 the instants never fall
--   rec_moment                 the balance with what was lost so far, at any moment
--   rec_within                 no queue passes its capacity, at any moment
use Rattle.std.specs.Prelude.{◌≡◌, refl, List, ◌++◌, ℕ, suc, ◌+◌, ◌*◌, ◌≤◌, ◌<◌, length, get_or}
use Rattle.std.proofs.Common.{sym, ap, subst, ◌∙◌, arith}
use Rattle.words.specs.Table.{tab, length_tab, tab_at}
use Rattle.chain.specs.Record.{row_of}
use Rattle.chain.specs.declared.Chain.{Chain}
use Rattle.sizing.specs.Sizes.{start, capacity_of}
use Rattle.sizing.specs.Accepted.{Accepted}
use Rattle.state.specs.State.{fresh_run, count_at, held_at, fresh_count}
use Rattle.state.specs.Fired.{Slots}
use Rattle.state.specs.declared.Run.{Run}
use Rattle.history.specs.History.{nodes, times}
use Rattle.instants.proofs.FilledLaws.{filled_slots}
use Rattle.traces.specs.Trace.{resting}
use Rattle.traces.specs.Rising.{Rising}
use Rattle.losses.specs.Losses.{no_loss, empty_losses, entry_at, entries_in, lost_in, lost}
use Rattle.losses.specs.declared.Loss.{Loss}
use Rattle.recordings.specs.Steps.{rec_instants}
use Rattle.recordings.proofs.RunsLaws.{rec_run_is_ticks}
use Rattle.recordings.specs.Marked.{Marked, unmarked, rec_after, EachFair, losses_of}
use Rattle.recordings.proofs.MarkedLaws.{fair_before, marked_counted, marked_balance, marked_within}
use Rattle.recordings.specs.Trace.{rec_trace}
use Rattle.recordings.specs.Leads.{Leads}
use Rattle.recordings.proofs.LeadsLaws.{leads_balance}
use Rattle.recordings.proofs.KeptLaws.{ticks_lead}
use Rattle.recordings.specs.Checks.{Recording, recording_filled, fresh_recording}
use Rattle.recordings.specs.declared.Recorded.{Recorded}
use Rattle.recordings.specs.Traced.{fresh_resting, rec_run, rec_firings}

-- which run, and whose firings
pub rec_run_means : (c : Chain) (T : ℕ) → (rec_run c T ≡ rec_instants c T (fresh_run c) empty_losses) × (rec_firings c T ≡ rec_trace c T (fresh_run c) empty_losses)
rec_run_means c T = (refl, refl)

module _ {c : Chain} (a : Accepted c) (T : ℕ) where
  fresh : Recording c (fresh_run c) empty_losses
  fresh = fresh_recording a

  pub rec_leads : Leads c (fresh_run c) empty_losses (rec_firings c T) (rec_run c T).run (rec_run c T).losses
  rec_leads = subst (λ (x : Recorded). Leads c (fresh_run c) empty_losses (rec_firings c T) x.run x.losses) (sym (rec_run_is_ticks a T empty_losses))
      (ticks_lead T (recording_filled fresh) fresh.listed).leads

  -- a production is lost exactly where it does not fit, and each firing is of a node over threshold
  pub rec_fair : EachFair c (fresh_run c) (rec_firings c T)
  rec_fair = subst (λ (s : Run). EachFair c s (rec_firings c T)) (fresh_resting c) rec_leads.fair

  -- the counts and contents after its firings are the run's
  pub rec_after_law : rec_after c (fresh_run c) (rec_firings c T) ≡ resting (rec_run c T).run
  rec_after_law = subst (λ (s : Run). rec_after c s (rec_firings c T) ≡ resting (rec_run c T).run) (fresh_resting c) rec_leads.after

  -- each node has fired as often as it stands in the trace
  pub rec_counted : (i : ℕ) → i ≤ c.n → count_at (rec_run c T).run i ≡ times i (nodes (unmarked (rec_firings c T)))
  rec_counted i l =
      ap (λ (s : Run). count_at s i) (sym rec_after_law)
      ∙ omega (arith, marked_counted c (fresh_run c) (rec_firings c T) i (omega (arith, (filled_slots (recording_filled fresh)).counts)), fresh_count c i)

  -- "its tick, queue and tokens go into a list": the entries are those of the lost firings, in order
  pub rec_entries : entries_in (rec_run c T).losses ≡ losses_of c (rec_firings c T)
  unfolding tab
  rec_entries = rec_leads.entries

  -- so there are as many, and entry k is the k-th
  pub rec_count : (rec_run c T).losses.count ≡ length (losses_of c (rec_firings c T))
  rec_count = sym (length_tab (rec_run c T).losses.count (entry_at (rec_run c T).losses)) ∙ ap length rec_entries

  pub rec_entry : (k : ℕ) → k < (rec_run c T).losses.count → entry_at (rec_run c T).losses k ≡ get_or (losses_of c (rec_firings c T)) k no_loss
  rec_entry k l = sym (tab_at (rec_run c T).losses.count (entry_at (rec_run c T).losses) k no_loss l) ∙ ap (λ (h : List Loss). get_or h k no_loss) rec_entries

  -- "for each queue, tokens produced equal tokens consumed, held, and the sum of that queue's entries, all from the history"
  pub rec_balance : (j : ℕ) → j < c.n → start (row_of c j) + (row_of c j).produce * times j (nodes (unmarked (rec_firings c T)))
      ≡ held_at (rec_run c T).run j + (row_of c j).consume * times (suc j) (nodes (unmarked (rec_firings c T))) + lost (rec_run c T).losses j
  rec_balance j l =
      rw (← rec_counted j (omega arith), ← rec_counted (suc j) l)
      (leads_balance a.chain (filled_slots (recording_filled fresh)) rec_leads j l (fresh.sound.queues j l).0.0)

  -- the instants of its firings never fall, from 0 to the clock at its end
  pub rec_rising : Rising 0 (unmarked (rec_firings c T)) (rec_run c T).run.clock
  unfolding fresh_run
  rec_rising = rec_leads.rising

  -- the balance with what was lost so far, at any moment: after whatever its firings begin with
  pub rec_moment : (g h : List Marked) → rec_firings c T ≡ g ++ h → (j : ℕ) → j < c.n → start (row_of c j) + (row_of c j).produce * times j (nodes (unmarked g))
      ≡ held_at (rec_after c (fresh_run c) g) j + (row_of c j).consume * times (suc j) (nodes (unmarked g)) + lost_in j (losses_of c g)
  unfolding tab lost_in
  rec_moment g h e j l =
      rw (← counted j (omega arith), ← counted (suc j) l)
      (marked_balance a.chain (fresh_run c) slots g (fair_before c (fresh_run c) g h (subst (EachFair c (fresh_run c)) e rec_fair)) j l 0 (fresh.sound.queues j l).0.0 ∙ omega arith)
    where
      slots : Slots c.n (fresh_run c)
      slots = filled_slots (recording_filled fresh)

      counted : (i : ℕ) → i ≤ c.n → count_at (rec_after c (fresh_run c) g) i ≡ times i (nodes (unmarked g))
      counted i low = omega (arith, marked_counted c (fresh_run c) g i (omega (arith, slots.counts)), fresh_count c i)

  -- "no queue passes its capacity", at any moment
  pub rec_within : (g h : List Marked) → rec_firings c T ≡ g ++ h → (j : ℕ) → j < c.n → held_at (rec_after c (fresh_run c) g) j ≤ capacity_of (row_of c j)
  rec_within g h e j l = marked_within (recording_filled fresh) g (fair_before c (fresh_run c) g h (subst (EachFair c (fresh_run c)) e rec_fair)) j l
