-- A flow into which the counts and contents of a state are poured.
--   Typed s                  what the type of a run state says of it: how many slots it has, and that its counts are words
--   Showing l c s            the flow shows such a state
--   Poured l s i m           m has the first i counts of s, and what the first i queues hold there; its rows are those of l
--   Full l s m               m has the sink's count, too
--   poured_none, _more, _end at the start, with one more of each, and after the last
--   poured_shows             at the end the flow of a fresh start shows the state
--   shown_with               the state that a flow shows, read out of it, with its clock and work done beside it
use Rattle.std.specs.Prelude.{◌≡◌, refl, ◌≢◌, List, ℕ, ◌+◌, ◌≤◌, ◌<◌, length, get_or, set}
use Rattle.std.proofs.Common.{sym, subst, ◌∙◌, arith, length-set, get_or-set_same, get_or-set_other}
use Rattle.words.specs.Table.{is_tab, below_next}
use Rattle.chain.specs.declared.Chain.{Chain}
use Rattle.sizing.specs.Checks.{limit}
use Rattle.state.specs.State.{count_at, held_at, same_run}
use Rattle.state.specs.declared.Run.{Run}
use Rattle.flow.specs.Flow.{count_in, held_in, Shows}
use Rattle.flow.specs.Shown.{shown}

-- what the type of a run state says of it
pub record Typed (s : Run) : Type 0 where
  pub counts : length s.counts ≡ 17
  pub held : length s.held ≡ 16
  pub done : length s.done ≡ 16
  pub words : (i : ℕ) → count_at s i ≤ limit

-- the flow shows such a state
pub record Showing (l : List ℕ) (c : Chain) (s : Run) : Type 0 where
  pub shows : Shows l c s
  pub typed : Typed s

-- the first i counts and contents
pub record Poured (l : List ℕ) (s : Run) (i : ℕ) (m : List ℕ) : Type 0 where
  pub reach : i ≤ 16
  pub long : length m ≡ length l
  pub counts : (j : ℕ) → j < i → count_in m j ≡ count_at s j
  pub holds : (j : ℕ) → j < i → held_in m j ≡ held_at s j
  pub rest : (y : ℕ) → y < 48 → get_or m y 0 ≡ get_or l y 0
  pub size : get_or m 82 0 ≡ get_or l 82 0

-- all of them: the sink of 16 queues has a count and no queue of its own
pub record Full (l : List ℕ) (s : Run) (m : List ℕ) : Type 0 where
  pub before : List ℕ
  pub poured : Poured l s 16 before
  pub last : m ≡ set before 64 (count_at s 16)

module _ (l : List ℕ) (s : Run) (wide : length l ≡ 83) where
  pub poured_none : Poured l s 0 l
  poured_none = record {
    reach = omega arith;
    long = refl;
    counts = λ j h. absurd (omega arith);
    holds = λ j h. absurd (omega arith);
    rest = λ y h. refl;
    size = refl;
  }

  module _ {i : ℕ} {m : List ℕ} (p : Poured l s i m) (h : i < 16) where
    abbrev one : List ℕ
    one = set m (48 + i) (count_at s i)

    abbrev two : List ℕ
    two = set one (65 + i) (held_at s i)

    other : (y : ℕ) → y ≢ 48 + i → y ≢ 65 + i → get_or two y 0 ≡ get_or m y 0
    other y a b = get_or-set_other one (65 + i) y _ 0 b ∙ get_or-set_other m (48 + i) y _ 0 a

    pub poured_more : Poured l s (i + 1) two
    poured_more = record {
      reach = omega arith;
      long = length-set one (65 + i) _ ∙ length-set m (48 + i) _ ∙ p.long;
      counts = below_next i
          (get_or-set_other one (65 + i) (48 + i) _ 0 (λ z. omega arith) ∙ get_or-set_same m (48 + i) _ 0 (omega (arith, p.long)))
          (λ j g. other (48 + j) (λ z. omega arith) (λ z. omega arith) ∙ p.counts j g);
      holds = below_next i
          (get_or-set_same one (65 + i) _ 0 (omega (arith, p.long, length-set m (48 + i) (count_at s i))))
          (λ j g. other (65 + j) (λ z. omega arith) (λ z. omega arith) ∙ p.holds j g);
      rest = λ y f. other y (λ z. omega arith) (λ z. omega arith) ∙ p.rest y f;
      size = other 82 (λ z. omega arith) (λ z. omega arith) ∙ p.size;
    }

-- after the last of them
pub poured_end : {l m : List ℕ} {s : Run} (i : ℕ) → 16 ≤ i → Poured l s i m → Poured l s 16 m
poured_end {l} {m} {s} i h p = let e : i ≡ 16 = omega (arith, p.reach) in subst (λ (k : ℕ). Poured l s k m) e p

-- the rows of a chain are those that were there
pub poured_shows : {l m : List ℕ} {c : Chain} {s t : Run} → Shows l c t → Typed s → Full l s m → Showing m c s
poured_shows {l} {m} {c} {s} x typed f = record { shows = shown_now; typed = typed }
  where
    shown_now : Shows m c s
    shown_now =
        let p : Poured l s 16 f.before = f.poured in
        let other : (y : ℕ) → y ≢ 64 → get_or (set f.before 64 (count_at s 16)) y 0 ≡ get_or f.before y 0 = λ y n. get_or-set_other f.before 64 y _ 0 n in
        rw f.last (record {
          long = length-set f.before 64 _ ∙ p.long ∙ x.long;
          many = other 82 (λ e. omega arith) ∙ p.size ∙ x.many;
          few = x.few;
          puts = λ j h. other j (λ e. omega (arith, x.few)) ∙ p.rest j (omega (arith, x.few)) ∙ x.puts j h;
          waits = λ j h. other (16 + j) (λ e. omega (arith, x.few)) ∙ p.rest (16 + j) (omega (arith, x.few)) ∙ x.waits j h;
          takes = λ j h. other (32 + j) (λ e. omega (arith, x.few)) ∙ p.rest (32 + j) (omega (arith, x.few)) ∙ x.takes j h;
          wide = typed.counts;
          deep = typed.held;
          counts = below_next 16 (get_or-set_same f.before 64 _ 0 (omega (arith, p.long, x.long))) (λ j g. other (48 + j) (λ e. omega arith) ∙ p.counts j g);
          holds = λ j h. other (65 + j) (λ e. omega arith) ∙ p.holds j h;
        })

-- the counts and contents of a state that a flow shows, with its clock and work done
pub shown_with : {l : List ℕ} {c : Chain} {s : Run} → Shows l c s → record { clock = s.clock; counts = (shown l).counts; held = (shown l).held; done = s.done } ≡ s
unfolding shown
shown_with {l} {c} {s} x = sym (same_run refl
    (is_tab 17 (λ j. count_in l j) 0 s.counts x.wide (λ j h. sym (x.counts j h)))
    (is_tab 16 (λ j. held_in l j) 0 s.held x.deep (λ j h. sym (x.holds j h)))
    refl)
