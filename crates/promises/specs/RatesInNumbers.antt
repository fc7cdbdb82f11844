-- Demand 2, the exact rates and the exact load by the numbers of the chain, of refused chains, too, of which nothing is reported; and so 6 and 7 of the analysis.
--   c, i, j, L               a chain, a node, a queue (N_j feeds it and N_(j+1) empties it), a place
--   x, y, g, k, b            a rate's two numbers, a divisor, a quotient, busy ticks
--   GoodRecord c             2, 4 and 5 have no reason to refuse c (RecordInNumbers)
--   GreatestDivisor a b g    g divides a and b, and every number that does divides g; gcd_is, greatest_one: gcd a b is one, and the only one
--   RateIs c i x y           N_i fires x times in y ticks, by 003's equation 1; at_source, behind_queue: its two cases
--   rate_some, rate_one      every node has such a rate, and one only
--   BusyIs c cycle i b       N_1 to N_i are busy b of cycle ticks; no_node, node_more: its two cases
--   LoadIs c cycle b         all nodes are, of the cycle y_n
--   load_some, load_one      every chain has such a load, and one only
--   RatePasses c i, Overloaded c
--                            the reasons of 6, at N_i, and of 7
--   analyse_six, analyse_seven
--                            when the analysis answers 6, and when 7
--   accepts_when             it accepts a chain exactly when none of 2, 4, 5, 6 and 7 has a reason
--   NamingIs p τ c by        by is the naming count of a queue with these numbers
--   reported_rate, reported_load, reported_naming
--                            what it reports of a chain that it accepts
--   checked-, fresh-, fire_begins and _record
--                            a check for a run, a fresh start and a manual firing answer the numbers of the analysis exactly where it does, with its place (and so does every
--                            run and deadline question, PlacesInNumbers, and a report of the chain that is read, ReportInColumns)
use Rattle.std.proofs.Math.Logic.Iff
use Rattle.std.specs.Prelude.{◌≡◌, ◌↔◌, ◌≢◌, ◌⊎◌, [], ◌∷◌}
use Rattle.std.proofs.Math.Path.{refl, ap}
use Rattle.std.proofs.Common.{sym, subst, ◌∙◌, arith}
use Rattle.std.proofs.Math.Logic.{inl, inr, ⊎_elim, by_cases}
use Prim.Native.Nat.{ℕ, zero, suc, ◌+◌, ◌*◌, ◌/◌, ◌≤◌, ◌<◌, ◌∣◌}
use Rattle.std.proofs.Math.Nat.{mul-div_cancel_left, mul-div_cancel', dvd-mul_right_of_dvd, dvd_antisymm, pos_of_dvd_of_pos}
use Rattle.std.proofs.Math.Decide.{dec_le}
use Rattle.ardenquill.specs.Chains.{work_of, Silents, chain_checks, Sound, sound_is}
use Rattle.ardenquill.specs.Analyses.{gcd, gcd_dvd_left, gcd_dvd_right, gcd_greatest, common, next_x, next_y, x_of}
use Rattle.ardenquill.specs.Analyses.{y_of, y_pos, busy_in, busy_of, cycle_of, parts_exact, InLimit, FirstTooLarge, rate_check, sized, analysis_of}
use Rattle.ardenquill.specs.Analyses.{analyse_refusal, analyse_answer, analyse_6, analyse_7, run_refusal, run_answer, run_earlier, rates_silent, Accepted}
use Rattle.ardenquill.specs.Runs as runs
use Rattle.ardenquill.specs.Runs.{fresh_answer, fire_refusal, fire_answer, fire_earlier}
use Rattle.ardenquill.specs.Records.{Chain, Run}
use Rattle.promises.specs.Order.{LowestOf, said}
use Rattle.promises.specs.Replay.{p_of, τ_of, c_of, Accepts, line, accepts_is}
use Rattle.promises.specs.Laws.{report_is, x_is, y_is, by_is, least_own, silents_append, silents_parts}
use Rattle.promises.specs.RecordInNumbers.{GoodRecord, good_is, RecordChecked, checked_as, analyse_record}

-- 01's "gcd" in words: it divides both, and every number that does divides it
pub record GreatestDivisor (a b g : ℕ) : Type 0 where
  pub left : g ∣ a
  pub right : g ∣ b
  pub greatest : (d : ℕ) → d ∣ a → d ∣ b → d ∣ g

-- which gcd is
pub gcd_is : (a b : ℕ) → GreatestDivisor a b (gcd a b)
gcd_is a b = record { left = gcd_dvd_left a b; right = gcd_dvd_right a b; greatest = gcd_greatest a b }

-- and no second number
pub greatest_one : {a b g h : ℕ} → GreatestDivisor a b g → GreatestDivisor a b h → g ≡ h
greatest_one {a} {b} {g} {h} u v = dvd_antisymm (v.greatest g u.left u.right) (u.greatest h v.left v.right)

-- "N_0 has x=1 and y the period. For queue i: g = gcd(p×x_i, c); x_(i+1) = p×x_i/g; y_(i+1) = c×y_i/g (003, equation 1)", the divisions as products
pub data RateIs (c : Chain) : ℕ → ℕ → ℕ → Type 0 where
  at_source : RateIs c 0 1 c.period
  behind_queue : {i x y g x' y' : ℕ} → RateIs c i x y → GreatestDivisor (p_of c i * x) (c_of c i) g → g * x' ≡ p_of c i * x → g * y' ≡ c_of c i * y → RateIs c (suc i) x' y'

-- N_i has a rate
pub record HasRate (c : Chain) (i : ℕ) : Type 0 where
  pub x : ℕ
  pub y : ℕ
  pub rate : RateIs c i x y

-- "sum over nodes 1..n of e×x×(y_n/y_node)", up to N_i, the division as a product
pub data BusyIs (c : Chain) (cycle : ℕ) : ℕ → ℕ → Type 0 where
  no_node : BusyIs c cycle 0 0
  node_more : {i b x y : ℕ} (k : ℕ) → BusyIs c cycle i b → RateIs c (suc i) x y → y * k ≡ cycle → BusyIs c cycle (suc i) (b + work_of c i * x * k)

-- "called busy, per cycle y_n"
pub record LoadIs (c : Chain) (cycle b : ℕ) : Type 0 where
  pub x : ℕ
  pub last : RateIs c c.n x cycle
  pub sum : BusyIs c cycle c.n b

-- the chain has a load
pub record HasLoad (c : Chain) : Type 0 where
  pub cycle : ℕ
  pub busy : ℕ
  pub load : LoadIs c cycle busy

-- 6's "some x or y of a rate is above 4,294,967,295", at N_i
pub record RatePasses (c : Chain) (i : ℕ) : Type 0 where
  pub node : (1 ≤ i) × (i ≤ c.n)
  pub of : HasRate c i
  pub above : (4294967295 < of.x) ⊎ (4294967295 < of.y)

-- 7's "Overloaded: exact busy above y_n"
pub record Overloaded (c : Chain) : Type 0 where
  pub of : HasLoad c
  pub above : of.cycle < of.busy

-- "(τ−c)/p rounded up, plus c/g": the fewest firings of the producer that put in τ−c or more, and c over the gcd of p and c, with no division
pub record NamingIs (p τ c by : ℕ) : Type 0 where
  pub firings : ℕ
  pub share : ℕ
  pub divisor : ℕ
  pub greatest : GreatestDivisor p c divisor
  pub parts : divisor * share ≡ c
  pub enough : τ ≤ p * firings + c
  pub least : (m : ℕ) → τ ≤ p * m + c → firings ≤ m
  pub is : by ≡ firings + share

-- the factor of a product over the other
factor : (a g q : ℕ) → 0 < g → g * q ≡ a → q ≡ a / g
factor a g q some e = sym (mul-div_cancel_left q some) ∙ ap (λ (m : ℕ). m / g) e

module _ (c : Chain) (s : Sound c) where
  -- no c is 0
  consumes : (i : ℕ) → i < c.n → 0 < c_of c i
  consumes i l = (s.rows i l).consume.0

  -- the rate that the analysis is defined by is such a rate
  rate_is : (i : ℕ) → i ≤ c.n → RateIs c i (x_of c i) (y_of c i)
  unfolding x_of y_of next_x next_y common
  rate_is zero l = at_source
  rate_is (suc i) l =
      let a : ℕ = p_of c i * x_of c i in
      let d : GreatestDivisor a (c_of c i) (gcd a (c_of c i)) = gcd_is a (c_of c i) in
      behind_queue (rate_is i (omega arith)) d (mul-div_cancel' _ d.left) (mul-div_cancel' _ (dvd-mul_right_of_dvd _ d.right (y_of c i)))

  -- and the only one
  rate_only : {i x y : ℕ} → i ≤ c.n → RateIs c i x y → (x ≡ x_of c i) × (y ≡ y_of c i)
  unfolding x_of y_of next_x next_y common
  rate_only l at_source = (refl, refl)
  rate_only l (behind_queue {i} {x} {y} {g} {x'} {y'} r d ex ey) =
      let before = rate_only (omega arith) r in
      let some : 0 < g = pos_of_dvd_of_pos d.right (consumes i l) in
      let is : g ≡ gcd (p_of c i * x_of c i) (c_of c i) = greatest_one d (gcd_is _ _) ∙ ap (λ (m : ℕ). gcd (p_of c i * m) (c_of c i)) before.0 in (
        factor _ g x' some ex ∙ ap (λ (m : ℕ). p_of c i * m / g) before.0 ∙ ap (λ (m : ℕ). p_of c i * x_of c i / m) is,
        factor _ g y' some ey ∙ ap (λ (m : ℕ). c_of c i * m / g) before.1 ∙ ap (λ (m : ℕ). c_of c i * y_of c i / m) is,
      )

  -- every node has a rate
  has_rate : (i : ℕ) → i ≤ c.n → HasRate c i
  has_rate i l = record { x = x_of c i; y = y_of c i; rate = rate_is i l }

  -- the load that the analysis is defined by is such a load
  busy_is : (i : ℕ) → i ≤ c.n → BusyIs c (cycle_of c) i (busy_in c (cycle_of c) i)
  unfolding busy_in
  busy_is zero l = no_node
  busy_is (suc i) l = node_more _ (busy_is i (omega arith)) (rate_is (suc i) l) (parts_exact c s i l)

  -- and the only one
  busy_only : {i b : ℕ} → i ≤ c.n → BusyIs c (cycle_of c) i b → b ≡ busy_in c (cycle_of c) i
  unfolding busy_in
  busy_only l no_node = refl
  busy_only l (node_more {i} {b} {x} {y} k r rate e) =
      let is = rate_only l rate in
      let part : k ≡ cycle_of c / y_of c (suc i) = factor (cycle_of c) (y_of c (suc i)) k (y_pos c s (suc i) l) (ap (λ (m : ℕ). m * k) (sym is.1) ∙ e) in
      rw (busy_only (omega arith) r, is.0, part)

  -- every chain has a load
  has_load : HasLoad c
  has_load = record { cycle = cycle_of c; busy = busy_of c; load = record { x = x_of c c.n; last = rate_is c.n (omega arith); sum = busy_is c.n (omega arith) } }

  -- the cycle and the load that the analysis is defined by are the only ones
  load_only : {cycle b : ℕ} → LoadIs c cycle b → (cycle ≡ cycle_of c) × (b ≡ busy_of c)
  load_only {cycle} {b} h =
      let is : cycle ≡ cycle_of c = (rate_only (omega arith) h.last).1 in
      (is, busy_only (omega arith) (subst (λ (m : ℕ). BusyIs c m c.n b) is h.sum))

  -- a rate within the limit does not pass it
  in_limit : (i : ℕ) → InLimit c i → RatePasses c i → ⊥
  in_limit i h p =
      let is = rate_only p.node.1 p.of.rate in
      ⊎_elim (λ a. omega (arith, is.0, h.0, a)) (λ a. omega (arith, is.1, h.1, a)) p.above

  -- and one that does not pass it is within
  not_past : (i : ℕ) → (1 ≤ i) × (i ≤ c.n) → (RatePasses c i → ⊥) → InLimit c i
  unfolding has_rate
  not_past i l none =
      let past : ((4294967295 < x_of c i) ⊎ (4294967295 < y_of c i)) → ⊥ = λ a. none (record { node = l; of = has_rate i l.1; above = a }) in
      (by_cases (dec_le (x_of c i) 4294967295) (λ h. h) (λ n. absurd (past (inl (omega arith)))), by_cases (dec_le (y_of c i) 4294967295) (λ h. h) (λ n. absurd (past (inr (omega arith)))))

  -- the lowest node whose rate passes it
  lowest_is : (L : ℕ) → FirstTooLarge c L ↔ LowestOf (RatePasses c) L
  unfolding has_rate
  lowest_is L = (
    λ f. record {
      has = record { node = f.node; of = has_rate L f.node.1; above = f.above };
      before = λ j l p. in_limit j (f.before j p.node.0 l) p;
    },
    λ f.
        let p : RatePasses c L = f.has in
        let is = rate_only p.node.1 p.of.rate in
        record {
          node = p.node;
          above = ⊎_elim (λ a. inl (omega (arith, is.0, a))) (λ a. inr (omega (arith, is.1, a))) p.above;
          before = λ j some l. not_past j (some, omega (arith, p.node)) (f.before j l);
        },
  )

  -- no rate passes it
  rates_are : ((i : ℕ) → i < c.n → InLimit c (suc i)) ↔ ((i : ℕ) → RatePasses c i → ⊥)
  rates_are = (λ h i. by h i, λ h i l. not_past (suc i) (omega arith, l) (h (suc i)))
    where
      by : ((i : ℕ) → i < c.n → InLimit c (suc i)) → (i : ℕ) → RatePasses c i → ⊥
      by h zero p = omega (arith, p.node.0)
      by h (suc i) p = in_limit (suc i) (h i p.node.1) p

  -- the load is above the cycle
  overload_is : (cycle_of c < busy_of c) ↔ Overloaded c
  unfolding has_load
  overload_is = (λ l. record { of = has_load; above = l }, λ o. let is = load_only o.of.load in omega (arith, is.0, is.1, o.above))

-- of a record that 2, 4 and 5 do not refuse
module _ (c : Chain) (good : GoodRecord c) where
  sound : Sound c
  sound = (good_is c).1 good

  -- every node has a rate
  pub rate_some : (i : ℕ) → i ≤ c.n → HasRate c i
  rate_some = has_rate c sound

  -- and one only
  pub rate_one : {i x y x' y' : ℕ} → i ≤ c.n → RateIs c i x y → RateIs c i x' y' → (x ≡ x') × (y ≡ y')
  rate_one l a b = let u = rate_only c sound l a in let v = rate_only c sound l b in (u.0 ∙ sym v.0, u.1 ∙ sym v.1)

  -- it has a load
  pub load_some : HasLoad c
  load_some = has_load c sound

  -- and one only
  pub load_one : {cycle b cycle' b' : ℕ} → LoadIs c cycle b → LoadIs c cycle' b' → (cycle ≡ cycle') × (b ≡ b')
  load_one a b = let u = load_only c sound a in let v = load_only c sound b in (u.0 ∙ sym v.0, u.1 ∙ sym v.1)

-- 2, 4 and 5 are silent
chain_silent : (c : Chain) → Silents (chain_checks c) ↔ Sound c
chain_silent c = sound_is c 20 (20 + 20 * c.n)

-- 6: "some x or y of a rate is above 4,294,967,295", place "lowest node", where 2, 4 and 5 have no reason
pub analyse_six : (c : Chain) (L : ℕ) → (((analyse_answer c).number ≡ 6) × ((analyse_answer c).place ≡ L)) ↔ (GoodRecord c × LowestOf (RatePasses c) L)
unfolding analyse_answer sized
analyse_six c L = Iff.trans (said (analyse_refusal c) 6 L) (Iff.trans (analyse_6 c L) (
  λ h. let s : Sound c = (chain_silent c).0 h.0 in ((good_is c).0 s, (lowest_is c s L).0 h.1),
  λ h. let s : Sound c = (good_is c).1 h.0 in ((chain_silent c).1 s, (lowest_is c s L).1 h.1),
))

-- 7: "overloaded", place 0, where 2, 4, 5 and 6 have no reason; busy that is exactly y_n is accepted
pub analyse_seven : (c : Chain) (L : ℕ) → (((analyse_answer c).number ≡ 7) × ((analyse_answer c).place ≡ L)) ↔ ((GoodRecord c × ((i : ℕ) → RatePasses c i → ⊥)) × (Overloaded c × (L ≡ 0)))
unfolding analyse_answer sized Silents
analyse_seven c L = Iff.trans (said (analyse_refusal c) 7 L) (Iff.trans (analyse_7 c L) (
  λ h.
      let quiet = silents_parts (chain_checks c) (rate_check c ∷ []) h.0 in
      let s : Sound c = (chain_silent c).0 quiet.0 in
      (((good_is c).0 s, (rates_are c s).0 ((rates_silent c).0 quiet.1.0)), ((overload_is c s).0 h.1.0, h.1.1)),
  λ h.
      let s : Sound c = (good_is c).1 h.0.0 in
      (silents_append (chain_checks c) (rate_check c ∷ []) ((chain_silent c).1 s) ((rates_silent c).1 ((rates_are c s).1 h.0.1), tt), ((overload_is c s).1 h.1.0, h.1.1)),
))

-- "a chain it doesn't refuse is accepted": exactly one that none of 2, 4, 5, 6 and 7 has a reason to refuse
pub accepts_when : (c : Chain) → Accepts c ↔ ((GoodRecord c × ((i : ℕ) → RatePasses c i → ⊥)) × (Overloaded c → ⊥))
accepts_when c = Iff.trans (accepts_is c) (
  λ a. (((good_is c).0 a.chain, (rates_are c a.chain).0 a.rates), λ o. omega (arith, (overload_is c a.chain).1 o, a.load)),
  λ h.
      let s : Sound c = (good_is c).1 h.0.0 in
      record { chain = s; rates = (rates_are c s).1 h.0.1; load = by_cases (dec_le (busy_of c) (cycle_of c)) (λ l. l) (λ n. absurd (h.1 ((overload_is c s).0 (omega arith)))) },
)

module _ (c : Chain) (ok : Accepts c) where
  -- no check of the analysis speaks
  accepted : Accepted c
  accepted = (accepts_is c).0 ok

  -- "its consumer's rate": what is reported of queue j is N_(j+1)'s
  pub reported_rate : (j : ℕ) → j < c.n → RateIs c (suc j) (line c j).x (line c j).y
  reported_rate j l = rw (x_is c accepted j l, y_is c accepted j l) (rate_is c accepted.chain (suc j) l)

  -- "busy ticks, cycle"
  pub reported_load : LoadIs c (analyse_answer c).analysis.cycle (analyse_answer c).analysis.busy
  unfolding analysis_of has_load
  reported_load = rw (report_is c accepted) (has_load c accepted.chain).load

  -- "The naming count of demand 3": of queue j
  pub reported_naming : (j : ℕ) → j < c.n → NamingIs (p_of c j) (τ_of c j) (c_of c j) (line c j).by
  reported_naming j l =
      let own = least_own c accepted j l in
      record {
        firings = own.firings;
        share = own.share;
        divisor = gcd (p_of c j) (c_of c j);
        greatest = gcd_is (p_of c j) (c_of c j);
        parts = own.whole;
        enough = omega (arith, own.near.enough);
        least = λ m h. own.near.fewest m (omega arith);
        is = by_is c accepted j l ∙ own.by;
      }

-- "Manual firing, runs and deadline questions check the analysis first": each of its numbers they answer exactly where it does, with its place
module _ (c : Chain) (N L : ℕ) (some : N ≢ 0) (early : N < 8) where
  -- a chain that is checked for a run
  pub checked_begins : (((run_answer c).number ≡ N) × ((run_answer c).place ≡ L)) ↔ (((analyse_answer c).number ≡ N) × ((analyse_answer c).place ≡ L))
  unfolding run_answer analyse_answer sized
  checked_begins = Iff.trans (said (run_refusal c) N L) (Iff.trans (run_earlier c L N some (λ e. omega arith)) (Iff.symm (said (analyse_refusal c) N L)))

  -- a fresh start
  pub fresh_begins : (((fresh_answer c).number ≡ N) × ((fresh_answer c).place ≡ L)) ↔ (((analyse_answer c).number ≡ N) × ((analyse_answer c).place ≡ L))
  unfolding fresh_answer runs.answered analyse_answer sized
  fresh_begins = Iff.rfl

  -- a manual firing
  pub fire_begins : (s : Run) (i : ℕ) → (((fire_answer c s i).number ≡ N) × ((fire_answer c s i).place ≡ L)) ↔ (((analyse_answer c).number ≡ N) × ((analyse_answer c).place ≡ L))
  unfolding fire_answer runs.answered analyse_answer sized
  fire_begins s i = Iff.trans (said (fire_refusal c s i) N L) (Iff.trans (fire_earlier c s i L N some (omega arith)) (Iff.symm (said (analyse_refusal c) N L)))

-- and so 2, 4 and 5: "A chain handed in as a record passes checks 2, 4, 5 again"
module _ (c : Chain) where
  -- a chain that is checked for a run
  pub checked_record : RecordChecked c (run_answer c).number (run_answer c).place
  checked_record = checked_as c (λ K L some low. checked_begins c K L some low) (analyse_record c)

  -- a fresh start
  pub fresh_record : RecordChecked c (fresh_answer c).number (fresh_answer c).place
  fresh_record = checked_as c (λ K L some low. fresh_begins c K L some low) (analyse_record c)

  -- a manual firing
  pub fire_record : (s : Run) (i : ℕ) → RecordChecked c (fire_answer c s i).number (fire_answer c s i).place
  fire_record s i = checked_as c (λ K L some low. fire_begins c K L some low s i) (analyse_record c)
