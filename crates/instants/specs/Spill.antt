-- An overflow at a finish never happens (01, Firing): from a state that passes 17, of a chain that passes 8, only the source can overflow.
--   due_by                     where a production does not fit, its consumer's next firing is due by it
--   room_before                a node that is due before the consumer of its output, where that is over threshold, has room
use Rattle.std.specs.Prelude.{◌≡◌, ℕ, suc, ◌+◌, ◌-◌, ◌*◌, ◌≤◌, ◌<◌}
use Rattle.std.proofs.Common.{le_trans, div-lt_iff_lt-mul, arith}
use Rattle.std.proofs.Math.Logic.{by_cases}
use Rattle.std.proofs.Math.Decide.{dec_lt, dec_le}
use Rattle.words.specs.declared.Queue.{Queue}
use Rattle.chain.specs.Record.{row_of}
use Rattle.chain.specs.Sound.{Sound}
use Rattle.chain.specs.declared.Chain.{Chain}
use Rattle.events.specs.Peak.{room}
use Rattle.sizing.specs.Sizes.{capacity_of}
use Rattle.sizing.specs.Checks.{Enough}
use Rattle.sizing.proofs.ChecksLaws.{enough_capacity}
use Rattle.state.specs.State.{count_at, held_at}
use Rattle.state.specs.Fired.{Over, Balance}
use Rattle.state.specs.declared.Run.{Run}
use Rattle.deadline.specs.Deadline.{earlier, deadline}
use Rattle.deadline.proofs.DeadlineLaws.{deadline_mono}
use Rattle.instants.specs.Steps.{next}

-- where production j, with m consumptions done, would pass the capacity, the consumer's next firing is due by it
pub due_by : (q : Queue) (j m : ℕ) → 0 < q.produce → capacity_of q + q.consume * m < q.produce * j → earlier q (suc m) ≤ j
unfolding earlier
due_by q j m some h =
    let e : suc m - 1 ≡ m = omega arith in
    rw e (omega (arith, (div-lt_iff_lt-mul {x = m * q.consume + capacity_of q} {y = j} some).1 (omega arith)))

-- one production more, from the balance
full : (p d N M x B : ℕ) → 0 + p * N ≡ x + d * M → B < x + p → B + d * M < p * suc N
full p d N M x B b l = omega (arith, b)

-- a node that is due before the consumer of its output, where that is over threshold, has room for what it produces
pub room_before : {c : Chain} (s : Run) (i : ℕ) → Sound c → i < c.n → Enough c i → Balance c s i
    → (Over c s (suc i) → deadline c i (next s i) < deadline c (suc i) (next s (suc i))) → held_at s i + (row_of c i).produce ≤ capacity_of (row_of c i)
unfolding deadline
room_before {c} s i k l enough b first = by_cases (dec_lt (held_at s i) (row_of c i).threshold)
    (λ low. le_trans (room 0 _ _ _ (count_at s i) (count_at s (suc i)) (held_at s i) (k.rows i l).produce.0 (k.rows i l).threshold.0 b low) (enough_capacity c i enough))
    (λ f. by_cases (dec_le (held_at s i + (row_of c i).produce) (capacity_of (row_of c i))) (λ h. h) (λ g. absurd (late (omega arith) (omega arith))))
  where
    late : (row_of c i).threshold ≤ held_at s i → capacity_of (row_of c i) < held_at s i + (row_of c i).produce → ⊥
    late o g =
        let due : earlier (row_of c i) (next s (suc i)) ≤ next s i = due_by (row_of c i) (next s i) (count_at s (suc i)) (k.rows i l).produce.0 (full _ _ _ _ _ _ b g) in
        omega (arith, first o, deadline_mono c i (earlier (row_of c i) (next s (suc i))) (next s i) due)
