-- The fields of a state after the source's step and after one tick of work of a recording tick (02, Item 2), whether a production is lost or not.
--   rec_source_fires, _rests, _others
--                              the counts after the source's step: a production that is lost is counted as any other
--   rec_source_done, _work     it does no work
--   rec_source_fed, _unfed, _held
--                              queue 0 has p more where the source is due and its production fits, and else no queue is other
--   rec_work_counts, _own, _others, _source, _most
--                              the counts after one tick of work of N_w: its own is one more exactly where its firing is finished
--   lost_or                    a firing that is finished is lost, or has its effect
--   rec_own_work, rec_other_work
--                              a tick of work is one tick more of the node that works, and of no other
use Rattle.std.specs.Prelude.{◌≡◌, refl, ◌≢◌, List, ℕ, zero, suc, ◌+◌, ◌*◌, ◌≤◌, get_or}
use Rattle.std.proofs.Common.{ap, ⊎_elim, arith}
use Rattle.std.proofs.Math.Logic.{by_cases}
use Rattle.std.proofs.Math.Decide.{ℕ_discrete, dec_dvd}
use Rattle.chain.specs.Record.{row_of, work_of}
use Rattle.chain.specs.declared.Chain.{Chain}
use Rattle.state.specs.State.{count_at, held_at, done_at}
use Rattle.state.specs.Fired.{Room}
use Rattle.state.specs.Checks.{Cramped}
use Rattle.state.proofs.ChecksLaws.{cramped_or}
use Rattle.state.specs.declared.Run.{Run}
use Rattle.instants.specs.Source.{Due}
use Rattle.instants.specs.Once.{Effect, WorkOnce}
use Rattle.instants.specs.Totals.{worked_by, worked_out}
use Rattle.losses.specs.declared.Losses.{Losses}
use Rattle.recordings.specs.Once.{LostOnce, SourceNoted, WorkNoted}

-- the source's step: "all else of the firing happens as ever", so a production that is lost is counted
module _ {c : Chain} {s : Run} {l : Losses} {u : Run} {m : Losses} (a : SourceNoted c s l u m) where
  pub rec_source_fires : Due c s → count_at u 0 ≡ count_at s 0 + 1
  rec_source_fires d = ⊎_elim (λ spills. (a.loses d spills).count) (λ room. ((a.keeps (λ h. room)).0.fires d).0) (cramped_or c s 0)

  pub rec_source_rests : (Due c s → ⊥) → count_at u 0 ≡ count_at s 0
  rec_source_rests rests = ((a.keeps (λ d. absurd (rests d))).0.rests rests).0

  pub rec_source_others : (i : ℕ) → i ≢ 0 → count_at u i ≡ count_at s i
  rec_source_others i ne = by_cases (dec_dvd c.period s.clock)
      (λ d. ⊎_elim (λ spills. (a.loses d spills).counts i ne) (λ room. (a.keeps (λ h. room)).0.counts i ne) (cramped_or c s 0))
      (λ rests. (a.keeps (λ d. absurd (rests d))).0.counts i ne)

-- it does no work, and puts p into queue 0 where that fits
module _ {c : Chain} {s : Run} {l : Losses} {u : Run} {m : Losses} (a : SourceNoted c s l u m) where
  pub rec_source_done : (j : ℕ) → done_at u j ≡ done_at s j
  rec_source_done j = by_cases (dec_dvd c.period s.clock)
      (λ d. ⊎_elim (λ spills. (a.loses d spills).others j (λ e. omega arith)) (λ room. ap (λ (x : List ℕ). get_or x j 0) (a.keeps (λ h. room)).0.done) (cramped_or c s 0))
      (λ rests. ap (λ (x : List ℕ). get_or x j 0) (a.keeps (λ d. absurd (rests d))).0.done)

  pub rec_source_work : (j : ℕ) → worked_by c u j ≡ worked_by c s j
  rec_source_work j = λ k. work_of c j * rec_source_others a (suc j) (λ z. omega arith) k + rec_source_done j k

  pub rec_source_fed : Due c s → Room c s 0 → held_at u 0 ≡ held_at s 0 + (row_of c 0).produce
  rec_source_fed d room = ((a.keeps (λ h. room)).0.fires d).1

  pub rec_source_unfed : (Due c s → Cramped c s 0) → held_at u 0 ≡ held_at s 0
  rec_source_unfed h = by_cases (dec_dvd c.period s.clock)
      (λ d. (a.loses d (h d)).held 0 (λ e. omega arith))
      (λ rests. ((a.keeps (λ d. absurd (rests d))).0.rests rests).1)

  pub rec_source_held : (j : ℕ) → j ≢ 0 → held_at u j ≡ held_at s j
  rec_source_held j ne = by_cases (dec_dvd c.period s.clock)
      (λ d. ⊎_elim (λ spills. (a.loses d spills).held j (λ e. omega arith)) (λ room. (a.keeps (λ h. room)).0.held j ne) (cramped_or c s 0))
      (λ rests. (a.keeps (λ d. absurd (rests d))).0.held j ne)

-- one tick of work of N_w: no count changes, or a firing is finished, and its count alone is one more
module _ {c : Chain} {u : Run} {l : Losses} {w : ℕ} {t : Run} {m : Losses} (a : WorkNoted c u l w t m) where
  same : {x y : List ℕ} → x ≡ y → (i : ℕ) → get_or x i 0 ≡ get_or y i 0
  same e i = ap (λ (x : List ℕ). get_or x i 0) e

  pub rec_work_counts : ((j : ℕ) → w ≡ suc j → done_at u j + 1 ≢ work_of c j) → (i : ℕ) → count_at t i ≡ count_at u i
  rec_work_counts less i = at w refl
    where
      once : WorkOnce c u w t
      once = (a.keeps (λ j e all. absurd (less j e all))).0

      at : (v : ℕ) → w ≡ v → count_at t i ≡ count_at u i
      at zero e = same (once.idle e).0 i
      at (suc j) e = same (once.on j e (less j e)).1.0 i

  module _ (j : ℕ) (own : w ≡ suc j) (all : done_at u j + 1 ≡ work_of c j) where
    -- it is lost, or fits
    pub lost_or : {P : Type 0} → (LostOnce c u (suc j) l t m → P) → (Effect c u j t → P) → P
    lost_or lost fits = ⊎_elim
        (λ spills. lost (a.loses j own all spills))
        (λ room. fits ((a.keeps (λ k e z. let i : j ≡ k = omega arith in rw (← i) room)).0.ends j own all))
        (cramped_or c u (suc j))

    pub rec_work_own : count_at t (suc j) ≡ count_at u (suc j) + 1
    rec_work_own = lost_or (λ x. x.count) (λ x. x.count)

    pub rec_work_others : (i : ℕ) → i ≢ suc j → count_at t i ≡ count_at u i
    rec_work_others i ne = lost_or (λ x. x.counts i ne) (λ x. x.counts i ne)

-- so one tick of work adds at most one to a count, and none to the source's
module _ {c : Chain} {u : Run} {l : Losses} {w : ℕ} {t : Run} {m : Losses} (a : WorkNoted c u l w t m) where
  pub rec_work_source : count_at t 0 ≡ count_at u 0
  rec_work_source = at w refl
    where
      at : (v : ℕ) → w ≡ v → count_at t 0 ≡ count_at u 0
      at zero e = rec_work_counts a (λ j f. absurd (omega arith)) 0
      at (suc j) e = by_cases (ℕ_discrete (done_at u j + 1) (work_of c j))
          (λ all. rec_work_others a j e all 0 (λ f. omega arith))
          (λ n. rec_work_counts a (λ k f all. n (let i : k ≡ j = omega arith in rw (← i) all)) 0)

  pub rec_work_most : (i : ℕ) → count_at t i ≤ suc (count_at u i)
  rec_work_most i = at w refl
    where
      at : (v : ℕ) → w ≡ v → count_at t i ≤ suc (count_at u i)
      at zero e = omega (arith, rec_work_counts a (λ j f. absurd (omega arith)) i)
      at (suc j) e = by_cases (ℕ_discrete (done_at u j + 1) (work_of c j))
          (λ all. by_cases (ℕ_discrete i (suc j)) (λ is. rw is (omega (arith, rec_work_own a j e all))) (λ ne. omega (arith, rec_work_others a j e all i ne)))
          (λ n. omega (arith, rec_work_counts a (λ k f all. n (let i : k ≡ j = omega arith in rw (← i) all)) i))

-- "works one tick, keeping work already done", whether or not what it finishes is lost
module _ {c : Chain} {u : Run} {l : Losses} {w : ℕ} {t : Run} {m : Losses} (a : WorkNoted c u l w t m) where
  -- a firing that is not finished in it
  unfinished : (j : ℕ) → w ≡ suc j → done_at u j + 1 ≢ work_of c j → (k : ℕ) → w ≡ suc k → done_at u k + 1 ≢ work_of c k
  unfinished j e n k f all = n (let i : k ≡ j = omega arith in rw (← i) all)

  pub rec_own_work : (j : ℕ) → w ≡ suc j → worked_by c t j ≡ worked_by c u j + 1
  rec_own_work j e = by_cases (ℕ_discrete (done_at u j + 1) (work_of c j))
      (λ all. worked_out c u t j all (rec_work_own a j e all) (lost_or a j e all (λ x. x.done j refl) (λ x. x.done)))
      (λ n.
      let on = (a.keeps (λ k f all. absurd (unfinished j e n k f all))).0.on j e n in
      rw (rec_work_counts a (unfinished j e n) (suc j), on.0) (omega arith))

  pub rec_other_work : (i : ℕ) → w ≢ suc i → worked_by c t i ≡ worked_by c u i
  rec_other_work i ne = at w refl
    where
      same_work : count_at t (suc i) ≡ count_at u (suc i) → done_at t i ≡ done_at u i → worked_by c t i ≡ worked_by c u i
      same_work e f = λ k. work_of c i * e k + f k

      at : (v : ℕ) → w ≡ v → worked_by c t i ≡ worked_by c u i
      at zero e = same_work (rec_work_counts a (λ j f. absurd (omega arith)) (suc i)) ((a.keeps (λ j f. absurd (omega arith))).0.others i ne)
      at (suc j) e = by_cases (ℕ_discrete (done_at u j + 1) (work_of c j))
          (λ all. same_work (rec_work_others a j e all (suc i) (λ f. ne (omega arith))) (lost_done j e all))
          (λ n. same_work (rec_work_counts a (unfinished j e n) (suc i)) ((a.keeps (λ k f all. absurd (unfinished j e n k f all))).0.others i ne))
        where
          lost_done : (j : ℕ) → w ≡ suc j → done_at u j + 1 ≡ work_of c j → done_at t i ≡ done_at u i
          lost_done j e all = ⊎_elim
              (λ spills. (a.loses j e all spills).others i (λ f. ne (omega arith)))
              (λ room. (a.keeps (λ k f z. let q : j ≡ k = omega arith in rw (← q) room)).0.others i ne)
              (cramped_or c u (suc j))
