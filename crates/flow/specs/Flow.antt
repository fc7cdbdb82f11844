-- A chain's rows and a run's counts and contents in one list, which code lends from call to call in place of two records.
--   produce_in, threshold_in, consume_in, count_in, held_in l j, size_in l
--                          the numbers of a flow: each queue's p, τ and c, each node's count, what each queue holds, and n
--   counted, put_in, taken_out l i
--                          the three steps of a firing of N_i: its count, its output queue, its input queue
--   firing l i             all three
--   counted_other, take_length, _other
--                          what the count and the removal leave
--   Shows l c s            the flow l has the numbers of the chain c and of the state s
--   shows_fired            a firing of the flow is the firing of what it shows
--   Ready l i              what the code of a firing asks: l shows a sound chain and a state in which N_i may fire
--   Puts l i, Takes l i    what the code of its steps asks: the sum fits, and there is enough to take
--   ready_node, _count, _puts, _takes
--                          which such a flow gives
use Rattle.std.specs.Prelude.{◌≡◌, Bool, cond, ◌≢◌, ltb, set}
use Rattle.std.proofs.Math.Path.{refl, sym, ap}
use Rattle.std.proofs.Common.{subst, ◌∙◌, arith, lt-ltb, le-ltb}
use Rattle.std.proofs.Math.Bool.{true, false}
use Rattle.std.proofs.Math.Logic.{by_cases}
use mathlib.Core.List.{List}
use Prim.Native.Nat.{ℕ, zero, suc, ◌+◌, ◌-◌, ◌^◌, ◌≤◌, ◌<◌}
use Rattle.std.proofs.Math.Decide.{ℕ_discrete, dec_lt}
use Rattle.std.proofs.Math.ListN.{length, get_or, length-set}
use Rattle.std.proofs.Math.Seq.{get_or-set_same, get_or-set_other}
use Rattle.chain.specs.Record.{row_of}
use Rattle.chain.specs.Sound.{Sound}
use Rattle.chain.specs.declared.Chain.{Chain}
use Rattle.sizing.specs.Sizes.{capacity_most}
use Rattle.sizing.specs.Checks.{limit}
use Rattle.state.specs.State.{count_at, held_at}
use Rattle.state.specs.Fired.{fired, Over, May, over_enough}
use Rattle.state.proofs.FiredLaws.{count_fired, count_other, held_output, held_input, held_other, held_sink, counts_length, holds_length}
use Rattle.state.specs.declared.Run.{Run}

-- where each number stands: p, τ and c of queue j, N_j's count, what queue j holds, and n; word 81 is not used, so that 65 + i is n's place for no node i
abbrev pub produce_in : List ℕ → ℕ → ℕ
produce_in l j = get_or l j 0

abbrev pub threshold_in : List ℕ → ℕ → ℕ
threshold_in l j = get_or l (16 + j) 0

abbrev pub consume_in : List ℕ → ℕ → ℕ
consume_in l j = get_or l (32 + j) 0

abbrev pub count_in : List ℕ → ℕ → ℕ
count_in l j = get_or l (48 + j) 0

abbrev pub held_in : List ℕ → ℕ → ℕ
held_in l j = get_or l (65 + j) 0

abbrev pub size_in : List ℕ → ℕ
size_in l = get_or l 82 0

-- N_i has fired once more
abbrev pub counted : List ℕ → ℕ → List ℕ
counted l i = set l (48 + i) (count_in l i + 1)

-- p goes into the queue after N_i, if there is one
unfoldable pub put_in : List ℕ → ℕ → List ℕ
put_in l i = cond (ltb i (size_in l)) (set l (65 + i) (held_in l i + produce_in l i)) l

-- c leaves the queue before N_i, if there is one
unfoldable pub taken_out : List ℕ → ℕ → List ℕ
taken_out l zero = l
taken_out l (suc j) = set l (65 + j) (held_in l j - consume_in l j)

-- a finished firing of N_i
unfoldable pub firing : List ℕ → ℕ → List ℕ
firing l i = taken_out (put_in (counted l i) i) i

-- the flow has the numbers of the chain and of the state
pub record Shows (l : List ℕ) (c : Chain) (s : Run) : Type 0 where
  pub long : length l ≡ 83
  pub many : size_in l ≡ c.n
  pub few : c.n ≤ 16
  pub puts : (j : ℕ) → j < c.n → produce_in l j ≡ (row_of c j).produce
  pub waits : (j : ℕ) → j < c.n → threshold_in l j ≡ (row_of c j).threshold
  pub takes : (j : ℕ) → j < c.n → consume_in l j ≡ (row_of c j).consume
  pub wide : length s.counts ≡ 17
  pub deep : length s.held ≡ 16
  pub counts : (j : ℕ) → j < 17 → count_in l j ≡ count_at s j
  pub holds : (j : ℕ) → j < 16 → held_in l j ≡ held_at s j

pub counted_other : (l : List ℕ) (i x : ℕ) → x ≢ 48 + i → get_or (counted l i) x 0 ≡ get_or l x 0
counted_other l i x ne = get_or-set_other l (48 + i) x _ 0 ne

module _ (l : List ℕ) (i : ℕ) where
  put_length : length (put_in l i) ≡ length l
  unfolding put_in
  put_length = by (ltb i (size_in l))
    where
      by : (b : Bool) → length (cond b (set l (65 + i) (held_in l i + produce_in l i)) l) ≡ length l
      by true = length-set l (65 + i) _
      by false = refl

  put_other : (x : ℕ) → x ≢ 65 + i → get_or (put_in l i) x 0 ≡ get_or l x 0
  unfolding put_in
  put_other x ne = by (ltb i (size_in l))
    where
      by : (b : Bool) → get_or (cond b (set l (65 + i) (held_in l i + produce_in l i)) l) x 0 ≡ get_or l x 0
      by true = get_or-set_other l (65 + i) x _ 0 ne
      by false = refl

  put_at : i < size_in l → 65 + i < length l → held_in (put_in l i) i ≡ held_in l i + produce_in l i
  unfolding put_in
  put_at h m = simp (lt-ltb i (size_in l) h) (get_or-set_same l (65 + i) _ 0 m)

  put_none : size_in l ≤ i → put_in l i ≡ l
  unfolding put_in
  put_none h = simp (le-ltb i (size_in l) h)

pub take_length : (l : List ℕ) (i : ℕ) → length (taken_out l i) ≡ length l
unfolding taken_out
take_length l zero = refl
take_length l (suc j) = length-set l (65 + j) _

pub take_other : (l : List ℕ) (i x : ℕ) → ((j : ℕ) → i ≡ suc j → x ≢ 65 + j) → get_or (taken_out l i) x 0 ≡ get_or l x 0
unfolding taken_out
take_other l zero x ne = refl
take_other l (suc j) x ne = get_or-set_other l (65 + j) x _ 0 (ne j refl)

-- what a firing of N_i leaves at each place
module _ (l : List ℕ) (i : ℕ) where
  firing_length : length (firing l i) ≡ length l
  unfolding firing
  firing_length = take_length _ i ∙ put_length (counted l i) i ∙ length-set l (48 + i) _

  firing_other : (x : ℕ) → x ≢ 48 + i → x ≢ 65 + i → ((j : ℕ) → i ≡ suc j → x ≢ 65 + j) → get_or (firing l i) x 0 ≡ get_or l x 0
  unfolding firing
  firing_other x a b e = take_other _ i x e ∙ put_other (counted l i) i x b ∙ counted_other l i x a

  firing_count : i ≤ 16 → length l ≡ 83 → count_in (firing l i) i ≡ count_in l i + 1
  unfolding firing
  firing_count f m = take_other _ i (48 + i) (λ j e z. omega arith) ∙ put_other (counted l i) i (48 + i) (λ e. omega arith) ∙ get_or-set_same l (48 + i) _ 0 (omega arith)

-- what the code of a firing asks: the flow shows a sound chain and a state in which N_i may fire, whether or not the state passes 17; that the count
-- is a word is said here, since the words of a lent array come with no range
pub record Ready (l : List ℕ) (i : ℕ) : Type 0 where
  pub chain : Chain
  pub run : Run
  pub shows : Shows l chain run
  pub sound : Sound chain
  pub may : May chain run i
  pub word : count_at run i ≤ limit

-- a firing of the flow is the firing of what it shows
module _ {l : List ℕ} {c : Chain} {s : Run} (x : Shows l c s) {i : ℕ} (m : i ≤ c.n) where
  node : i ≤ 16
  node = omega (arith, m, x.few)

  -- n is as it was, and so is each number of a row, which lies before the counts
  size_kept : size_in (firing l i) ≡ c.n
  size_kept = firing_other l i 82 (λ e. omega (arith, node)) (λ e. omega (arith, node)) (λ j e z. omega (arith, node)) ∙ x.many

  row_kept : (y : ℕ) → y < 48 → get_or (firing l i) y 0 ≡ get_or l y 0
  row_kept y h = firing_other l i y (λ e. omega arith) (λ e. omega arith) (λ j e z. omega arith)

  count_shown : (j : ℕ) → j < 17 → count_in (firing l i) j ≡ count_at (fired c s i) j
  count_shown j h = by_cases (ℕ_discrete j i)
      (λ e. rw e (firing_count l i node x.long ∙ ap (λ (n : ℕ). n + 1) (x.counts i (omega (arith, node))) ∙ sym (count_fired c s i (omega (arith, x.wide, node)))))
      (λ ne. firing_other l i (48 + j) (λ e. ne (omega arith)) (λ e. omega arith) (λ m e z. omega (arith, node)) ∙ x.counts j h ∙ sym (count_other c s i j ne))

  output_shown : i < c.n → held_in (firing l i) i ≡ held_at (fired c s i) i
  unfolding firing
  output_shown l' =
      let n : size_in (counted l i) ≡ c.n = counted_other l i 82 (λ e. omega (arith, node)) ∙ x.many in
      let a : held_in (counted l i) i ≡ held_at s i = counted_other l i (65 + i) (λ e. omega arith) ∙ x.holds i (omega (arith, x.few)) in
      let b : produce_in (counted l i) i ≡ (row_of c i).produce = counted_other l i i (λ e. omega arith) ∙ x.puts i l' in
      let put = put_at (counted l i) i (omega arith) (omega (arith, x.long, x.few, length-set l (48 + i) (count_in l i + 1))) in
      let kept = take_other (put_in (counted l i) i) i (65 + i) (λ j e z. omega arith) in
      omega (arith, kept, put, a, b, held_output c s i l' (omega (arith, x.deep, x.few)))

  sink_shown : c.n ≤ i → i < 16 → held_in (firing l i) i ≡ held_at (fired c s i) i
  unfolding firing
  sink_shown l' h =
      let n : size_in (counted l i) ≡ c.n = counted_other l i 82 (λ e. omega (arith, node)) ∙ x.many in
      take_other (put_in (counted l i) i) i (65 + i) (λ j e z. omega arith)
      ∙ ap (λ (m : List ℕ). held_in m i) (put_none (counted l i) i (omega arith))
      ∙ counted_other l i (65 + i) (λ e. omega arith) ∙ x.holds i h ∙ sym (held_sink c s i i l' (λ e. omega arith))

-- the input queue, of a node that has one: the flow has its contents and its c when they are taken
module _ {l : List ℕ} {c : Chain} {s : Run} (x : Shows l c s) (j : ℕ) (m : j < c.n) where
  abbrev half : List ℕ
  half = put_in (counted l (suc j)) (suc j)

  input_held : held_in half j ≡ held_at s j
  input_held =
      put_other (counted l (suc j)) (suc j) (65 + j) (λ e. omega arith) ∙ counted_other l (suc j) (65 + j) (λ e. omega (arith, x.few, m)) ∙ x.holds j (omega (arith, x.few, m))

  input_taken : consume_in half j ≡ (row_of c j).consume
  input_taken =
      put_other (counted l (suc j)) (suc j) (32 + j) (λ e. omega (arith, x.few, m))
      ∙ counted_other l (suc j) (32 + j) (λ e. omega (arith, x.few, m)) ∙ x.takes j m

  input_shown : (row_of c j).consume ≤ held_at s j → held_in (firing l (suc j)) j ≡ held_at (fired c s (suc j)) j
  unfolding firing taken_out
  input_shown enough =
      let wide : 65 + j < length half = omega (arith, put_length (counted l (suc j)) (suc j), length-set l (48 + suc j) (get_or l (48 + suc j) 0 + 1), x.long, x.few, m) in
      omega (arith, get_or-set_same half (65 + j) (held_in half j - consume_in half j) 0 wide, input_held, input_taken, held_input c s j (omega (arith, x.deep, x.few, m)) enough)

pub shows_fired : {l : List ℕ} {c : Chain} {s : Run} → Shows l c s → Sound c → {i : ℕ} → May c s i → Shows (firing l i) c (fired c s i)
shows_fired {l} {c} {s} x k {i} m = record {
  long = firing_length l i ∙ x.long;
  many = size_kept x m.node;
  few = x.few;
  puts = λ j h. row_kept x m.node j (omega (arith, x.few)) ∙ x.puts j h;
  waits = λ j h. row_kept x m.node (16 + j) (omega (arith, x.few)) ∙ x.waits j h;
  takes = λ j h. row_kept x m.node (32 + j) (omega (arith, x.few)) ∙ x.takes j h;
  wide = counts_length c s i ∙ x.wide;
  deep = holds_length c s i ∙ x.deep;
  counts = count_shown x m.node;
  holds = held_shown;
}
  where
    held_shown : (j : ℕ) → j < 16 → held_in (firing l i) j ≡ held_at (fired c s i) j
    held_shown j h = by_cases (ℕ_discrete j i)
        (λ e. rw e (by_cases (dec_lt i c.n) (output_shown x m.node) (λ n. sink_shown x m.node (omega arith) (omega arith))))
        (λ ne. by_cases (ℕ_discrete (suc j) i)
        (λ e.
        let inside : j < c.n = omega (arith, m.node) in
        subst (λ (n : ℕ). held_in (firing l n) j ≡ held_at (fired c s n) j) e (input_shown x j inside (over_enough k s j inside (subst (Over c s) (sym e) m.over))))
        (λ ne'. firing_other l i (65 + j) (λ e. omega (arith, node x m.node)) (λ e. ne (omega arith)) (λ n e z. ne' (omega arith)) ∙ x.holds j h ∙ sym (held_other c s i j ne ne')))

-- what the code of the production asks: the sum fits
pub record Puts (l : List ℕ) (i : ℕ) : Type 0 where
  pub few : size_in l ≤ 16
  pub fits : i < size_in l → held_in l i + produce_in l i < 2 ^ 32

-- what the code of the removal asks: there is enough to take
pub record Takes (l : List ℕ) (i : ℕ) : Type 0 where
  pub node : i ≤ 16
  pub enough : (j : ℕ) → i ≡ suc j → consume_in l j ≤ held_in l j

-- the numbers of a firing fit
module _ {l : List ℕ} {i : ℕ} (r : Ready l i) where
  pub ready_node : i ≤ 16
  ready_node = node r.shows r.may.node

  pub ready_count : count_in l i < limit
  ready_count = let n : count_at r.run i ≢ limit = r.may.countable in omega (arith, r.word, r.shows.counts i (omega (arith, ready_node)))

  pub ready_puts : Puts (counted l i) i
  ready_puts =
      let n : size_in (counted l i) ≡ r.chain.n = counted_other l i 82 (λ e. omega (arith, ready_node)) ∙ r.shows.many in
      record {
        few = omega (arith, r.shows.few);
        fits = λ h.
            let f : i < r.chain.n = omega arith in
            let a = counted_other l i (65 + i) (λ e. omega arith) ∙ r.shows.holds i (omega (arith, r.shows.few)) in
            let b = counted_other l i i (λ e. omega arith) ∙ r.shows.puts i f in
            omega (arith, a, b, r.may.room f, capacity_most (r.sound.rows i f));
      }

  pub ready_takes : Takes (put_in (counted l i) i) i
  ready_takes = record { node = ready_node; enough = enough }
    where
      at : (j : ℕ) → j < r.chain.n → Over r.chain r.run (suc j) → consume_in (put_in (counted l (suc j)) (suc j)) j ≤ held_in (put_in (counted l (suc j)) (suc j)) j
      at j m o = omega (arith, input_held r.shows j m, input_taken r.shows j m, over_enough r.sound r.run j m o)

      enough : (j : ℕ) → i ≡ suc j → consume_in (put_in (counted l i) i) j ≤ held_in (put_in (counted l i) i) j
      enough j e = subst (λ (m : ℕ). consume_in (put_in (counted l m) m) j ≤ held_in (put_in (counted l m) m) j) (sym e)
          (at j (omega (arith, r.may.node, e)) (subst (Over r.chain r.run) e r.may.over))
