-- Laws of specs/Checks.antt that rest on a definition which an edit of must-fail/ changes.
-- 17 of a state with its list of losses (02, Item 2).
--   rec_state_exact, _silent, _fine, _only
--                              it speaks exactly under its condition, is silent exactly elsewhere, naming no place, and has its own number
--   rec_state_words, _lowest   it is silent exactly of these, in the numbers of the state, the chain and the list alone, and what it names is the lowest
--   rec_state_sums             ticks and tokens of entries are looked at through the sums alone
--   leads_recording            firings that lead from one to a state that the steps may be made in lead to one
--   rec_tick_balance           a tick keeps the balance, whatever its outcome
--   rec_tick_recording, rec_ticks_recording
--                              a tick that does not find the list full leaves one, and so do so many
use Rattle.std.proofs.Math.Logic.Iff
use Rattle.std.specs.Prelude.{◌≡◌, ◌↔◌, ◌⊎◌, List, ℕ, suc, ◌+◌, ◌*◌, ◌≤◌, ◌<◌, get_or, eqb, leb, ltb}
use Rattle.std.proofs.Common.{ap, ap₂, ◌∙◌, ⊎_elim, arith, eq-eqb}
use Rattle.words.specs.Table.{tab, tab_alike}
use Rattle.chain.specs.Tests.{sum_iff}
use Rattle.chain.specs.Refusals.{refused, fine, test, first, or_else, Silent, first_fine, or_says, or_silents, Only, only_or}
use Rattle.chain.specs.Record.{row_of, work_of}
use Rattle.chain.specs.declared.Chain.{Chain}
use Rattle.sizing.specs.Sizes.{start, capacity_of}
use Rattle.state.specs.State.{count_at, held_at, done_at}
use Rattle.state.specs.Fired.{supplied, accounted}
use Rattle.state.specs.Checks.{broken_unless, queue_test}
use Rattle.state.proofs.ChecksLaws.{queues_exact, queues_silent, queues_only}
use Rattle.state.specs.declared.Run.{Run}
use Rattle.instants.specs.Filled.{Filled}
use Rattle.instants.proofs.FilledLaws.{filled_slots}
use Rattle.losses.specs.Losses.{longest_list, entry_at, lost}
use Rattle.losses.specs.Checks.{stray_test, stray_check, list_check, LongOrStray, Named}
use Rattle.losses.proofs.ChecksLaws.{list_exact, list_silent, list_only}
use Rattle.losses.specs.declared.Losses.{Losses}
use Rattle.recordings.specs.Steps.{rec_tick, rec_ticks}
use Rattle.recordings.specs.Marked.{Marked}
use Rattle.recordings.specs.Leads.{Leads}
use Rattle.recordings.proofs.LeadsLaws.{leads_balance}
use Rattle.recordings.proofs.KeptLaws.{tick_leads, ticks_lead}
use Rattle.recordings.specs.declared.RecordOutcome.TheVariants.{ListFull}
use Rattle.recordings.specs.Checks.{rec_accounted, RecBalance, rec_queues_check, rec_state_check, FirstRecBroken, RecSound, Recording, recording_filled, filled_recording}

module _ (c : Chain) (s : Run) (l : Losses) where
  -- the list, at place 0; or the lowest queue of a state whose list passes
  pub rec_state_exact : (L : ℕ) → (rec_state_check c s l ≡ refused 17 L)
      ↔ ((LongOrStray c.n l × (L ≡ 0)) ⊎ (((l.count ≤ 256) × Named c.n l) × FirstRecBroken c s l L))
  unfolding rec_state_check rec_queues_check
  rec_state_exact L =
      Iff.trans (or_says 17 L (λ e. omega arith) (list_check c.n l) (rec_queues_check c s l))
      (sum_iff (list_exact c.n l L) (Iff.and (list_silent c.n l) (Iff.trans (queues_exact c s (supplied c s) (rec_accounted c s l) L)
      (λ f. record { queue = f.queue; broken = f.broken; before = f.before }, λ f. record { queue = f.queue; broken = f.broken; before = f.before }))))

  pub rec_state_silent : Silent (rec_state_check c s l) ↔ RecSound c s l
  unfolding rec_state_check rec_queues_check
  rec_state_silent =
      Iff.trans (or_silents (list_check c.n l) (rec_queues_check c s l))
      (Iff.trans (Iff.and (list_silent c.n l) (queues_silent c s (supplied c s) (rec_accounted c s l)))
      (λ h. record { short = h.0.0; named = h.0.1; queues = h.1 }, λ r. ((r.short, r.named), r.queues)))

  -- where it is silent it names no place
  pub rec_state_fine : Silent (rec_state_check c s l) → rec_state_check c s l ≡ fine
  unfolding rec_state_check rec_queues_check or_else
  rec_state_fine h =
      let z = (or_silents (list_check c.n l) (rec_queues_check c s l)).0 h in
      let queues : or_else (list_check c.n l) (rec_queues_check c s l) ≡ rec_queues_check c s l = simp (eq-eqb _ _ z.0) in
      queues ∙ first_fine (tab c.n (queue_test c s (supplied c s) (rec_accounted c s l))) z.1

  pub rec_state_only : Only 17 (rec_state_check c s l)
  unfolding rec_state_check rec_queues_check
  rec_state_only = only_or (list_check c.n l) (rec_queues_check c s l) (list_only c.n l) (queues_only c s (supplied c s) (rec_accounted c s l))

-- "ticks and tokens of entries are tested through the sum alone": lists of as many entries that name the same queues and have the same sums are refused alike
pub rec_state_sums : (c : Chain) (s : Run) (l m : Losses) → l.count ≡ m.count → ((k : ℕ) → k < l.count → (entry_at l k).queue ≡ (entry_at m k).queue)
    → ((j : ℕ) → j < c.n → lost l j ≡ lost m j) → rec_state_check c s l ≡ rec_state_check c s m
unfolding rec_state_check rec_queues_check list_check stray_check
rec_state_sums c s l m count queues sums = ap₂ or_else
    (ap₂ or_else (ap (λ (k : ℕ). test 17 0 (ltb longest_list k)) count)
    (ap first (tab_alike l.count (stray_test c.n l) (stray_test c.n m) (λ k h. ap (λ (q : ℕ). test 17 0 (leb c.n q)) (queues k h)) ∙ ap (λ (k : ℕ). tab k (stray_test c.n m)) count)))
    (ap first (tab_alike c.n _ _ (λ i h. ap (λ (x : ℕ). test 17 i (broken_unless (eqb (supplied c s i) (accounted c s i + x)) (row_of c i) (work_of c i) (held_at s i) (done_at s i))) (sums i h))))

-- firings that lead to a filled state lead to one that passes 17
pub leads_recording : {c : Chain} {s u : Run} {l m : Losses} {h : List Marked} → Recording c s l → Leads c s l h u m → Filled c u → Recording c u m
leads_recording r a f =
    filled_recording f a.listed (a.named r.sound.named) (λ j n. leads_balance r.chain.chain (filled_slots (recording_filled r)) a j n (r.sound.queues j n).0.0)

module _ {c : Chain} {s : Run} {l : Losses} (r : Recording c s l) where
  -- "tokens produced equal tokens consumed, held, and the sum of that queue's entries", after a tick with any outcome
  pub rec_tick_balance : (j : ℕ) → j < c.n → RecBalance c (rec_tick c s l).run (rec_tick c s l).losses j
  rec_tick_balance j h = leads_balance r.chain.chain (filled_slots (recording_filled r)) (tick_leads (recording_filled r) r.listed).leads j h (r.sound.queues j h).0.0

  -- "clean and 13 leave a state and a list that pass the recording 17": one tick
  pub rec_tick_recording : ((t q : ℕ) → (rec_tick c s l).outcome ≡ ListFull t q → ⊥) → Recording c (rec_tick c s l).run (rec_tick c s l).losses
  rec_tick_recording room = let k = tick_leads (recording_filled r) r.listed in leads_recording r k.leads (k.filled room)

  -- and so many
  pub rec_ticks_recording : (T : ℕ) → ((t q : ℕ) → (rec_ticks c T s l).outcome ≡ ListFull t q → ⊥) → Recording c (rec_ticks c T s l).run (rec_ticks c T s l).losses
  rec_ticks_recording T room = let k = ticks_lead T (recording_filled r) r.listed in leads_recording r k.leads (k.filled room)

-- 17 is silent exactly of these, in words of the state, the chain and the list alone
pub rec_state_words : (c : Chain) (s : Run) (l : Losses) → Silent (rec_state_check c s l)
    ↔ (((l.count ≤ 256) × ((k : ℕ) → k < l.count → (get_or l.entries k (record { tick = 0; queue = 0; tokens = 0 })).queue < c.n))
    × ((i : ℕ) → i < c.n → ((start (row_of c i) + (row_of c i).produce * count_at s i ≡ held_at s i + (row_of c i).consume * count_at s (suc i) + lost l i)
    × (held_at s i ≤ capacity_of (row_of c i))) × (done_at s i < work_of c i)))
rec_state_words c s l = Iff.trans (rec_state_silent c s l) (λ r. ((r.short, r.named), r.queues), λ h. record { short = h.0.0; named = h.0.1; queues = h.1 })

-- and no queue below the one that it names breaks any of them
pub rec_state_lowest : (c : Chain) (s : Run) (l : Losses) (L : ℕ) → rec_state_check c s l ≡ refused 17 L → (j : ℕ) → j < L
    → ((start (row_of c j) + (row_of c j).produce * count_at s j ≡ held_at s j + (row_of c j).consume * count_at s (suc j) + lost l j)
    × (held_at s j ≤ capacity_of (row_of c j))) × (done_at s j < work_of c j)
rec_state_lowest c s l L e j h = ⊎_elim (λ a. absurd (omega (arith, a.1))) (λ a. a.1.before j h) ((rec_state_exact c s l L).0 e)
