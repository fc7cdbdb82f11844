-- The two ends of a flow: the chain that it is filled from, and the state that is read out of it.
--   Entered c i l            a flow of which the first i rows are filled in: n is in its place, and no count or contents are there yet
--   entered_none, _more, _shows
--                            at the start, with one row more, and at the end: it shows a fresh start
--   shown l                  the state that a flow has, clock and work done being 0
--   shown_is                 it is the state that the flow shows, where that has them
--   Part l i r               a state of which the first i slots are read out of the flow
--   part_none, -more, -shown at the start, with one slot more, and at the end
use Rattle.std.specs.Prelude.{◌≡◌, ◌≢◌, List, ℕ, ◌+◌, ◌≤◌, ◌<◌, length, get_or, set, replicate}
use Rattle.std.proofs.Math.Path.{refl}
use Rattle.std.proofs.Common.{sym, subst, ◌∙◌, arith, length-set, get_or-set_same, get_or-set_other}
use Rattle.std.proofs.lemmas.List.{length-replicate, get_or-replicate}
use Rattle.words.specs.Table.{tab, is_tab, slots, slots_none, slots_more, slots_whole, below_next}
use Rattle.chain.specs.Record.{row_of}
use Rattle.chain.specs.Sound.{Sound}
use Rattle.chain.specs.declared.Chain.{Chain}
use Rattle.state.specs.State.{fresh_run, fresh_empty, empty_run, same_run}
use Rattle.state.specs.declared.Run.{Run}
use Rattle.flow.specs.Flow.{produce_in, threshold_in, consume_in, count_in, held_in, size_in, Shows}

-- the first i rows are filled in
pub record Entered (c : Chain) (i : ℕ) (l : List ℕ) : Type 0 where
  pub reach : i ≤ c.n
  pub long : length l ≡ 83
  pub many : size_in l ≡ c.n
  pub puts : (j : ℕ) → j < i → produce_in l j ≡ (row_of c j).produce
  pub waits : (j : ℕ) → j < i → threshold_in l j ≡ (row_of c j).threshold
  pub takes : (j : ℕ) → j < i → consume_in l j ≡ (row_of c j).consume
  pub rest : (y : ℕ) → 48 ≤ y → y < 82 → get_or l y 0 ≡ 0

zeros : (N y z : ℕ) → y < N → get_or (replicate N z) y z ≡ z
zeros N y z l = get_or-replicate N y z z l

pub entered_none : (c : Chain) → Entered c 0 (set (replicate 83 0) 82 c.n)
entered_none c = record {
  reach = omega arith;
  long = length-set (replicate 83 0) 82 c.n ∙ length-replicate {A = ℕ} 83 0;
  many = get_or-set_same (replicate 83 0) 82 c.n 0 (omega (arith, length-replicate {A = ℕ} 83 0));
  puts = λ j l. absurd (omega arith);
  waits = λ j l. absurd (omega arith);
  takes = λ j l. absurd (omega arith);
  rest = λ y l m. get_or-set_other (replicate 83 0) 82 y c.n 0 (λ e. omega arith) ∙ zeros 83 y 0 (omega arith);
}

-- one row more
module _ {c : Chain} {i : ℕ} {l : List ℕ} (few : c.n ≤ 16) (f : Entered c i l) (h : i < c.n) where
  abbrev one : List ℕ
  one = set l i (row_of c i).produce

  abbrev two : List ℕ
  two = set one (16 + i) (row_of c i).threshold

  abbrev three : List ℕ
  three = set two (32 + i) (row_of c i).consume

  other : (y : ℕ) → y ≢ i → y ≢ 16 + i → y ≢ 32 + i → get_or three y 0 ≡ get_or l y 0
  other y a b d = get_or-set_other two (32 + i) y _ 0 d ∙ get_or-set_other one (16 + i) y _ 0 b ∙ get_or-set_other l i y _ 0 a

  long_one : length one ≡ 83
  long_one = length-set l i _ ∙ f.long

  long_two : length two ≡ 83
  long_two = length-set one (16 + i) _ ∙ long_one

  pub entered_more : Entered c (i + 1) three
  entered_more = record {
    reach = omega arith;
    long = length-set two (32 + i) _ ∙ long_two;
    many = other 82 (λ e. omega arith) (λ e. omega arith) (λ e. omega arith) ∙ f.many;
    puts = below_next {P = λ j. get_or three j 0 ≡ (row_of c j).produce} i
        (get_or-set_other two (32 + i) i _ 0 (λ e. omega arith) ∙ get_or-set_other one (16 + i) i _ 0 (λ e. omega arith) ∙ get_or-set_same l i _ 0 (omega (arith, f.long)))
        (λ j n. other j (λ e. omega arith) (λ e. omega arith) (λ e. omega arith) ∙ f.puts j n);
    waits = below_next {P = λ j. threshold_in three j ≡ (row_of c j).threshold} i
        (get_or-set_other two (32 + i) (16 + i) _ 0 (λ e. omega arith) ∙ get_or-set_same one (16 + i) _ 0 (omega (arith, long_one)))
        (λ j n. other (16 + j) (λ e. omega arith) (λ e. omega arith) (λ e. omega arith) ∙ f.waits j n);
    takes = below_next {P = λ j. consume_in three j ≡ (row_of c j).consume} i
        (get_or-set_same two (32 + i) _ 0 (omega (arith, long_two)))
        (λ j n. other (32 + j) (λ e. omega arith) (λ e. omega arith) (λ e. omega arith) ∙ f.takes j n);
    rest = λ y a b. other y (λ e. omega arith) (λ e. omega arith) (λ e. omega arith) ∙ f.rest y a b;
  }

-- all rows: a fresh start
pub entered_shows : {c : Chain} {i : ℕ} {l : List ℕ} → Sound c → c.n ≤ i → Entered c i l → Shows l c (fresh_run c)
entered_shows {c} {i} {l} s e f = rw (← fresh_empty c) (record {
  long = f.long;
  many = f.many;
  few = s.count.1;
  puts = λ j h. f.puts j (omega arith);
  waits = λ j h. f.waits j (omega arith);
  takes = λ j h. f.takes j (omega arith);
  wide = length-replicate {A = ℕ} 17 0;
  deep = length-replicate {A = ℕ} 16 0;
  counts = λ j h. f.rest (48 + j) (omega arith) (omega arith) ∙ sym (zeros 17 j 0 h);
  holds = λ j h. f.rest (65 + j) (omega arith) (omega arith) ∙ sym (zeros 16 j 0 h);
})

-- the state that a flow has
unfoldable pub shown : List ℕ → Run
unfolding tab
shown l = record { clock = 0; counts = tab 17 (λ j. count_in l j); held = tab 16 (λ j. held_in l j); done = replicate 16 0 }

pub shown_is : {l : List ℕ} {c : Chain} {s : Run} → Shows l c s → s.clock ≡ 0 → s.done ≡ replicate 16 0 → shown l ≡ s
unfolding shown
shown_is {l} {c} {s} x k d = sym (same_run k
    (is_tab 17 (λ j. count_in l j) 0 s.counts x.wide (λ j h. sym (x.counts j h)))
    (is_tab 16 (λ j. held_in l j) 0 s.held x.deep (λ j h. sym (x.holds j h)))
    d)

-- a state of which the first i slots are read out of the flow
pub record Part (l : List ℕ) (i : ℕ) (r : Run) : Type 0 where
  pub reach : i ≤ 16
  pub clock : r.clock ≡ 0
  pub counts : r.counts ≡ slots (λ j. count_in l j) 0 17 i
  pub held : r.held ≡ slots (λ j. held_in l j) 0 16 i
  pub done : r.done ≡ replicate 16 0

pub part_none : (l : List ℕ) → Part l 0 empty_run
part_none l = record {
  reach = omega arith;
  clock = refl;
  counts = slots_none (λ j. count_in l j) 0 17;
  held = slots_none (λ j. held_in l j) 0 16;
  done = refl;
}

module _ {l : List ℕ} {i : ℕ} {r : Run} (p : Part l i r) where
  pub part_more : i < 16 → Part l (i + 1) (record { clock = r.clock; counts = set r.counts i (count_in l i); held = set r.held i (held_in l i); done = r.done })
  part_more h = record {
    reach = omega arith;
    clock = p.clock;
    counts = slots_more (λ j. count_in l j) 0 17 i r.counts (count_in l i) (omega arith) p.counts refl;
    held = slots_more (λ j. held_in l j) 0 16 i r.held (held_in l i) h p.held refl;
    done = p.done;
  }

  -- the sink of 16 queues has a count and no queue of its own
  pub part_shown : 16 ≤ i → record { clock = r.clock; counts = set r.counts 16 (count_in l 16); held = r.held; done = r.done } ≡ shown l
  unfolding shown
  part_shown h =
      let e : i ≡ 16 = omega (arith, p.reach) in
      same_run p.clock
      (slots_more (λ j. count_in l j) 0 17 16 r.counts (count_in l 16) (omega arith)
      (subst (λ (m : ℕ). r.counts ≡ slots (λ j. count_in l j) 0 17 m) e p.counts) refl ∙ slots_whole (λ j. count_in l j) 0 17)
      (subst (λ (m : ℕ). r.held ≡ slots (λ j. held_in l j) 0 16 m) e p.held ∙ slots_whole (λ j. held_in l j) 0 16)
      p.done
