-- What the steps of a recording tick leave (02, Item 2), field by field, and that nothing else fits.
--   LostOnce c u i l t m       t is u after a firing of N_i whose production was dropped, with m for the list l, the clock left open
--   lost_only                  at one clock nothing else is that
--   SourceNoted c s l u m      u and m are s and l after the source's step
--   source_noted, source_noted_only
--                              what it leaves where it is clean is that, and nothing else is
--   WorkNoted c u l w t m      t and m are u and l after one tick of work of N_w, and after the effect of its firing where that is then finished
--   WorkFull c u j t           t is u after the last tick of work of N_(j+1), with nothing of its firing done
--   work_noted_only, work_full_only
--                              and nothing else is
-- What is named here and not declared stands in proofs/OnceLaws.antt.
use Rattle.std.specs.Prelude.{◌≡◌, refl, ◌≢◌, ℕ, zero, suc, ◌+◌}
use Rattle.std.proofs.Common.{sym, ◌∙◌, ⊎_elim, arith, ext_get_or}
use Rattle.std.proofs.Math.Path.{subst}
use Rattle.std.proofs.Math.Logic.{by_cases}
use Rattle.std.proofs.Math.Decide.{ℕ_discrete, dec_dvd}
use Rattle.chain.specs.Record.{row_of, work_of}
use Rattle.chain.specs.declared.Chain.{Chain}
use Rattle.state.specs.State.{count_at, held_at, done_at, same_run}
use Rattle.state.specs.Fired.{Room}
use Rattle.state.specs.Checks.{Cramped}
use Rattle.state.proofs.ChecksLaws.{cramped_or}
use Rattle.state.specs.declared.Run.{Run}
use Rattle.slots.specs.Runs.{Whole}
use Rattle.instants.specs.Source.{Due, SourceOnce}
use Rattle.instants.proofs.SourceLaws.{source_only}
use Rattle.instants.specs.Once.{WorkOnce, work_only}
use Rattle.losses.specs.Losses.{Noted, noted_only}
use Rattle.losses.specs.declared.Losses.{Losses}

-- "dropped whole", and "all else of the firing happens as ever": N_i has fired once more, its input queue has c less, no other queue is changed, its own among
-- them, its work is cleared, and the list has one entry more: the clock, the queue and p
pub record LostOnce (c : Chain) (u : Run) (i : ℕ) (l : Losses) (t : Run) (m : Losses) : Type 0 where
  pub whole : Whole t
  pub count : count_at t i ≡ count_at u i + 1
  pub counts : (k : ℕ) → k ≢ i → count_at t k ≡ count_at u k
  pub input : (j : ℕ) → i ≡ suc j → held_at t j + (row_of c j).consume ≡ held_at u j
  pub held : (k : ℕ) → i ≢ suc k → held_at t k ≡ held_at u k
  pub done : (j : ℕ) → i ≡ suc j → done_at t j ≡ 0
  pub others : (k : ℕ) → i ≢ suc k → done_at t k ≡ done_at u k
  pub noted : Noted l t.clock i (row_of c i).produce m

-- at one clock a lost firing leaves one state and one list only
module _ {c : Chain} {u : Run} {i : ℕ} {l : Losses} {t v : Run} {m n : Losses} (at : t.clock ≡ v.clock) (a : LostOnce c u i l t m) (b : LostOnce c u i l v n) where
  lost_run : t ≡ v
  lost_run = same_run at
      (ext_get_or 0 t.counts v.counts (a.whole.counts ∙ sym b.whole.counts) (λ k l. by_cases (ℕ_discrete k i)
      (λ e. rw e (a.count ∙ sym b.count)) (λ ne. a.counts k ne ∙ sym (b.counts k ne))))
      (ext_get_or 0 t.held v.held (a.whole.held ∙ sym b.whole.held) (λ k l. by_cases (ℕ_discrete i (suc k))
      (λ e. omega (arith, a.input k e, b.input k e)) (λ ne. a.held k ne ∙ sym (b.held k ne))))
      (ext_get_or 0 t.done v.done (a.whole.done ∙ sym b.whole.done) (λ k l. by_cases (ℕ_discrete i (suc k))
      (λ e. a.done k e ∙ sym (b.done k e)) (λ ne. a.others k ne ∙ sym (b.others k ne))))

  pub lost_only : (t ≡ v) × (m ≡ n)
  lost_only = (lost_run, noted_only a.noted (subst (λ (x : ℕ). Noted l x i (row_of c i).produce n) (sym at) b.noted))

-- u and m are s and l after the source's step: where it loses nothing it is that of the deadline run, and the list is as it was
pub record SourceNoted (c : Chain) (s : Run) (l : Losses) (u : Run) (m : Losses) : Type 0 where
  pub clock : u.clock ≡ s.clock
  pub keeps : (Due c s → Room c s 0) → SourceOnce c s u × (m ≡ l)
  pub loses : Due c s → Cramped c s 0 → LostOnce c s 0 l u m

-- the source's step leaves one state and one list only
pub source_noted_only : {c : Chain} {s : Run} {l : Losses} {u v : Run} {m n : Losses} → SourceNoted c s l u m → SourceNoted c s l v n → (u ≡ v) × (m ≡ n)
source_noted_only {c} {s} {l} {u} {v} {m} {n} a b = by_cases (dec_dvd c.period s.clock)
    (λ d. ⊎_elim (λ spills. lost_only (a.clock ∙ sym b.clock) (a.loses d spills) (b.loses d spills)) (λ room. kept (λ h. room)) (cramped_or c s 0))
    (λ rests. kept (λ d. absurd (rests d)))
  where
    kept : (Due c s → Room c s 0) → (u ≡ v) × (m ≡ n)
    kept h = let p = a.keeps h in let q = b.keeps h in (source_only u v p.0 q.0, p.1 ∙ sym q.1)

-- t and m are u and l after one tick of work of N_w: where no production is lost it is that of the deadline run, and the list is as it was
pub record WorkNoted (c : Chain) (u : Run) (l : Losses) (w : ℕ) (t : Run) (m : Losses) : Type 0 where
  pub clock : t.clock ≡ u.clock + 1
  pub keeps : ((j : ℕ) → w ≡ suc j → done_at u j + 1 ≡ work_of c j → Room c u (suc j)) → WorkOnce c u w t × (m ≡ l)
  pub loses : (j : ℕ) → w ≡ suc j → done_at u j + 1 ≡ work_of c j → Cramped c u (suc j) → LostOnce c u (suc j) l t m

-- "the clock is t+1, work done e, count not raised, input not taken": t is u after the last tick of work of N_(j+1), whose firing has no effect
pub record WorkFull (c : Chain) (u : Run) (j : ℕ) (t : Run) : Type 0 where
  pub whole : Whole t
  pub clock : t.clock ≡ u.clock + 1
  pub counts : t.counts ≡ u.counts
  pub held : t.held ≡ u.held
  pub done : done_at t j ≡ work_of c j
  pub others : (k : ℕ) → k ≢ j → done_at t k ≡ done_at u k

-- a tick of work leaves one state and one list only
module _ {c : Chain} {u : Run} {l : Losses} {w : ℕ} {t v : Run} {m n : Losses} (a : WorkNoted c u l w t m) (b : WorkNoted c u l w v n) where
  pub work_noted_only : (t ≡ v) × (m ≡ n)
  work_noted_only = at w refl
    where
      kept : ((j : ℕ) → w ≡ suc j → done_at u j + 1 ≡ work_of c j → Room c u (suc j)) → (t ≡ v) × (m ≡ n)
      kept h = let p = a.keeps h in let q = b.keeps h in (work_only p.0 q.0, p.1 ∙ sym q.1)

      at : (i : ℕ) → w ≡ i → (t ≡ v) × (m ≡ n)
      at zero e = kept (λ j q. absurd (omega arith))
      at (suc j) e = by_cases (ℕ_discrete (done_at u j + 1) (work_of c j))
          (λ all. ⊎_elim
          (λ spills. lost_only (a.clock ∙ sym b.clock) (a.loses j e all spills) (b.loses j e all spills))
          (λ room. kept (λ k q z. subst (Room c u) (sym e ∙ q) room))
          (cramped_or c u (suc j)))
          (λ ne. kept (λ k q z. absurd (ne (let i : k ≡ j = omega arith in subst (λ (x : ℕ). done_at u x + 1 ≡ work_of c x) i z))))

pub work_full_only : {c : Chain} {u : Run} {j : ℕ} {t v : Run} → WorkFull c u j t → WorkFull c u j v → t ≡ v
work_full_only {j = j} {t} {v} a b = same_run (a.clock ∙ sym b.clock) (a.counts ∙ sym b.counts) (a.held ∙ sym b.held)
    (ext_get_or 0 t.done v.done (a.whole.done ∙ sym b.whole.done) (λ k l. by_cases (ℕ_discrete k j) (λ e. rw e (a.done ∙ sym b.done)) (λ ne. a.others k ne ∙ sym (b.others k ne))))
