-- A finished firing whose production is dropped whole, in a flow (02, Item 2).
--   losing l i             N_i has fired once more and has taken its input; its output queue is as it was
--   Loses l i              what the code asks: l shows a sound chain and a state in which N_i is over threshold and its count can grow
--   shows_lost             in a flow it is what it is in the state that the flow shows
--   loses_count, _takes    which such a flow gives
use Rattle.std.specs.Prelude.{◌≡◌, refl, ◌≢◌, List, length, get_or}
use Rattle.std.proofs.Math.Path.{sym, ap}
use Rattle.std.proofs.Common.{subst, ◌∙◌, arith, get_or-set_other}
use Rattle.std.proofs.Math.Logic.{by_cases}
use Prim.Native.Nat.{ℕ, zero, suc, ◌+◌, ◌-◌, ◌≤◌, ◌<◌}
use Rattle.std.proofs.Math.Decide.{ℕ_discrete}
use Rattle.std.proofs.Math.ListN.{length-set}
use Rattle.std.proofs.Math.Seq.{get_or-set_same}
use Rattle.chain.specs.Record.{row_of}
use Rattle.chain.specs.Sound.{Sound}
use Rattle.chain.specs.declared.Chain.{Chain}
use Rattle.sizing.specs.Checks.{limit}
use Rattle.state.specs.State.{count_at, held_at}
use Rattle.state.specs.Fired.{fired, consumed, Over, over_enough}
use Rattle.state.proofs.FiredLaws.{count_fired, count_other, counts_length}
use Rattle.state.specs.declared.Run.{Run}
use Rattle.flow.specs.Flow.{count_in, held_in, consume_in, counted, taken_out, counted_other, take_length, take_other, Shows, Takes}

-- "the node still takes its input": the firing is counted, and nothing is put into its output queue
unfoldable pub losing : List ℕ → ℕ → List ℕ
losing l i = taken_out (counted l i) i

-- what its code asks
pub record Loses (l : List ℕ) (i : ℕ) : Type 0 where
  pub chain : Chain
  pub run : Run
  pub shows : Shows l chain run
  pub sound : Sound chain
  pub node : i ≤ chain.n
  pub over : Over chain run i
  pub count : count_at run i < limit

module _ {l : List ℕ} {c : Chain} {s : Run} (x : Shows l c s) {i : ℕ} (m : i ≤ c.n) where
  low : i ≤ 16
  low = omega (arith, m, x.few)

  other : (y : ℕ) → y ≢ 48 + i → ((j : ℕ) → i ≡ suc j → y ≢ 65 + j) → get_or (losing l i) y 0 ≡ get_or l y 0
  unfolding losing
  other y a b = take_other (counted l i) i y b ∙ counted_other l i y a

  row_kept : (y : ℕ) → y < 48 → get_or (losing l i) y 0 ≡ get_or l y 0
  row_kept y h = other y (λ e. omega arith) (λ j e z. omega arith)

  count_kept : (j : ℕ) → j < 17 → count_in (losing l i) j ≡ count_at (fired c s i) j
  unfolding losing
  count_kept j h = by_cases (ℕ_discrete j i)
      (λ e. rw e (take_other (counted l i) i (48 + i) (λ k f z. omega (arith, low)) ∙ get_or-set_same l (48 + i) _ 0 (omega (arith, x.long, low))
      ∙ ap (λ (n : ℕ). n + 1) (x.counts i (omega (arith, low))) ∙ sym (count_fired c s i (omega (arith, x.wide, low)))))
      (λ ne. other (48 + j) (λ e. ne (omega arith)) (λ k f z. omega (arith, low)) ∙ x.counts j h ∙ sym (count_other c s i j ne))

-- the input queue, of a node that has one
module _ {l : List ℕ} {c : Chain} {s : Run} (x : Shows l c s) (j : ℕ) (m : j < c.n) where
  input_held : held_in (counted l (suc j)) j ≡ held_at s j
  input_held = counted_other l (suc j) (65 + j) (λ e. omega (arith, x.few)) ∙ x.holds j (omega (arith, x.few))

  input_taken : consume_in (counted l (suc j)) j ≡ (row_of c j).consume
  input_taken = counted_other l (suc j) (32 + j) (λ e. omega (arith, x.few)) ∙ x.takes j m

  input_shown : held_in (losing l (suc j)) j ≡ get_or (consumed c (suc j) s.held) j 0
  unfolding losing taken_out consumed
  input_shown =
      get_or-set_same (counted l (suc j)) (65 + j) _ 0 (omega (arith, length-set l (48 + suc j) (count_in l (suc j) + 1), x.long, x.few))
      ∙ (λ z. input_held z - input_taken z) ∙ sym (get_or-set_same s.held j _ 0 (omega (arith, x.deep, x.few)))

held_kept : {l : List ℕ} {c : Chain} {s : Run} → Shows l c s → (i : ℕ) → i ≤ c.n → (j : ℕ) → j < 16 → held_in (losing l i) j ≡ get_or (consumed c i s.held) j 0
unfolding consumed
held_kept x zero m j h = other x m (65 + j) (λ e. omega arith) (λ k f z. omega arith) ∙ x.holds j h
held_kept {c = c} {s} x (suc i) m j h = by_cases (ℕ_discrete j i)
    (λ e. rw e (input_shown x i m))
    (λ ne. other x m (65 + j) (λ e. omega (arith, x.few)) (λ k f z. ne (omega arith)) ∙ x.holds j h ∙ sym (get_or-set_other s.held i j (held_at s i - (row_of c i).consume) 0 ne))

length_taken : (c : Chain) (i : ℕ) (h : List ℕ) → length (consumed c i h) ≡ length h
unfolding consumed
length_taken c zero h = refl
length_taken c (suc j) h = length-set h j _

-- the state that the flow shows then
pub shows_lost : {l : List ℕ} {c : Chain} {s : Run} → Shows l c s → {i : ℕ} → i ≤ c.n
    → Shows (losing l i) c (record { clock = s.clock; counts = (fired c s i).counts; held = consumed c i s.held; done = s.done })
unfolding losing
shows_lost {l} {c} {s} x {i} m = record {
  long = take_length (counted l i) i ∙ length-set l (48 + i) _ ∙ x.long;
  many = other x m 82 (λ e. omega (arith, low x m)) (λ j f z. omega (arith, low x m)) ∙ x.many;
  few = x.few;
  puts = λ j h. row_kept x m j (omega (arith, x.few)) ∙ x.puts j h;
  waits = λ j h. row_kept x m (16 + j) (omega (arith, x.few)) ∙ x.waits j h;
  takes = λ j h. row_kept x m (32 + j) (omega (arith, x.few)) ∙ x.takes j h;
  wide = counts_length c s i ∙ x.wide;
  deep = length_taken c i s.held ∙ x.deep;
  counts = count_kept x m;
  holds = held_kept x i m;
}

-- the numbers of its code fit
module _ {l : List ℕ} {i : ℕ} (r : Loses l i) where
  loses_node : i ≤ 16
  loses_node = low r.shows r.node

  pub loses_count : count_in l i < limit
  loses_count = omega (arith, r.count, r.shows.counts i (omega (arith, loses_node)))

  pub loses_takes : Takes (counted l i) i
  loses_takes = record { node = loses_node; enough = enough }
    where
      at : (j : ℕ) → j < r.chain.n → Over r.chain r.run (suc j) → consume_in (counted l (suc j)) j ≤ held_in (counted l (suc j)) j
      at j m o = omega (arith, input_held r.shows j m, input_taken r.shows j m, over_enough r.sound r.run j m o)

      enough : (j : ℕ) → i ≡ suc j → consume_in (counted l i) j ≤ held_in (counted l i) j
      enough j e = subst (λ (m : ℕ). consume_in (counted l m) j ≤ held_in (counted l m) j) (sym e)
          (at j (omega (arith, r.node, e)) (subst (Over r.chain r.run) e r.over))
