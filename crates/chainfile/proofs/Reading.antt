-- The reader, as its code has it.
--   read_parts         its checks in the order in which it asks them
--   answers            by this the check proves each way out
--   Loading            what is known before each row of the tables; load_none, load_more: at the start, and after one row more
--   loaded, rows_all, rows_sound
--                      and behind the last row
use mathlib.Core.Path.{◌≡◌, refl, sym, ap, ap₂, ◌∙◌}
use mathlib.Core.Bool.{Bool, true, false, ◌&&◌}
use mathlib.Core.Logic.Iff
use mathlib.Core.List.{List, [], ◌∷◌}
use Prim.Native.Nat.{ℕ, ◌+◌, ◌*◌, ◌≤◌, ◌<◌}
use native.Mathlib.Omega.{arith}
use lib.ListN.{length, set, take, drop}
use lib.Dec.{ltb}
use Rattle.std.proofs.Common.{Bor}
use Rattle.words.specs.Rows.{none, row_at}
use Rattle.words.specs.Table.{slots, slots_none, slots_more, slot_used, below_next}
use Rattle.words.specs.Words.{word_at}
use Rattle.words.specs.Reader.{moved}
use Rattle.words.specs.declared.Queue.{Queue}
use Rattle.words.specs.declared.ChainReader.{ChainReader}
use Rattle.chain.specs.Tests.{and_true}
use Rattle.chain.specs.Refusals.{refused, test, first, or_else, fine, Silent, first_append, or_left, or_right}
use Rattle.chain.specs.Checks.{count_check, ticks, out_of_range, range_check, order_check}
use Rattle.chain.specs.Record.{row_of, work_of, empty_chain, answered, same_chain}
use Rattle.chain.specs.Said.{chain_given, chain_refused}
use Rattle.chain.specs.Faults.{fine_row, AllFine}
use Rattle.chain.proofs.FaultsLaws as Laws
use Rattle.chain.proofs.Passing.{passing}
use Rattle.chain.specs.Refusal.{Refusal}
use Rattle.chain.specs.declared.Chain.{Chain}
use Rattle.chainfile.specs.declared.reader.Header.{Header}
use Rattle.chainfile.specs.Accepted.{Placed}
use Rattle.chainfile.specs.File.{count_of, period_of, queues_at, nodes_at, header_of, chain_of, length_check, file_offsets, read_checks, header_refusal, rows_refusal, read_refusal, read_answer}

-- the reader's checks as its code has them: whether there is room for a header, then the header's own, then the rows'. The
-- first of them adds nothing, since a file too short for a header has a wrong length.
length_first : (f : List ℕ) (r : Refusal) → or_else (header_refusal f) r ≡ or_else (test 1 0 (ltb (length f) 20)) (or_else (header_refusal f) r)
unfolding header_refusal first
length_first f r = by (ltb (length f) 20) refl
  where
    by : (b : Bool) → ltb (length f) 20 ≡ b → or_else (header_refusal f) r ≡ or_else (test 1 0 b) (or_else (header_refusal f) r)
    by true e =
        let loud : Silent (refused 1 0) → ⊥ = λ z. omega arith in
        let short : refused 1 0 ≡ header_refusal f = or_left {a = length_check f} (first (count_check (count_of f) ∷ file_offsets f ∷ [])) (simp e) loud in
        sym (or_left r short loud) ∙ or_left {a = refused 1 0} (or_else (header_refusal f) r) refl loud
    by false e = or_right {a = fine} refl refl refl

pub read_parts : (f : List ℕ) → read_answer f ≡ answered (or_else (test 1 0 (ltb (length f) 20)) (or_else (header_refusal f) (rows_refusal f))) (chain_of f)
unfolding read_answer read_refusal header_refusal rows_refusal
read_parts f =
    ap (λ (r : Refusal). answered r (chain_of f)) (first_append (take 3 (read_checks f)) (drop 3 (read_checks f)) ∙ length_first f (rows_refusal f))

-- by these the check proves the reader
pub ruleset answers = (chain_given, chain_refused, read_parts, passing)

-- before row i of file f, which the readers of the tables have come to: the slots before it are filled, and where `sound` all of these rows are fine
pub record Loading (f : List ℕ) (i : ℕ) (rows times : ChainReader) (c : Chain) (sound : Bool) : Type 0 where
  pub rows_of_file : rows.bytes.now ≡ f
  pub times_of_file : times.bytes.now ≡ f
  pub row_place : rows.at ≡ queues_at f + 20 * i
  pub time_place : times.at ≡ nodes_at f + 4 * i
  pub count : c.n ≡ count_of f
  pub period : c.period ≡ period_of f
  pub queues : c.queues ≡ slots (λ j. row_at f (queues_at f + 20 * j)) none 16 i
  pub work : c.work ≡ slots (λ j. word_at f (nodes_at f + 4 * j)) 0 16 i
  pub fines : sound ≡ true → AllFine (λ j. row_at f (queues_at f + 20 * j)) (λ j. word_at f (nodes_at f + 4 * j)) i

pub load_none : (b : Bor (List ℕ)) {h : Header} {c : Chain} {rows times : ChainReader} → h ≡ header_of b.now
    → c ≡ record { n = h.n; period = h.period; queues = empty_chain.queues; work = empty_chain.work }
    → (rows.bytes ≡ b) × (rows.at ≡ h.queues) → (times.bytes ≡ b) × (times.at ≡ h.nodes) → Loading b.now 0 rows times c true
load_none b is e r t = rw (e, r.0, r.1, t.0, t.1, is) (record {
  rows_of_file = refl;
  times_of_file = refl;
  row_place = omega arith;
  time_place = omega arith;
  count = refl;
  period = refl;
  queues = slots_none _ none 16;
  work = slots_none _ 0 16;
  fines = λ _ j l. absurd (omega arith);
})

module _ (f : List ℕ) (places : Placed f) {i : ℕ} {rows times : ChainReader} {c : Chain} {sound : Bool} (s : Loading f i rows times c sound) where
  -- row i and its word fill one slot more
  module _ (l : i < count_of f) where
    pub load_more : {row : Queue} {e : ℕ} → row ≡ row_at rows.bytes.now rows.at → e ≡ word_at times.bytes.now times.at
        → Loading f (i + 1) (moved 20 rows) (moved 4 times) (record { n = c.n; period = c.period; queues = set c.queues i row; work = set c.work i e }) (sound && fine_row row e)
    load_more {row} {e} er ee =
        let slot : i < 16 = omega (arith, places.count) in
        let queue : row ≡ row_at f (queues_at f + 20 * i) = er ∙ ap₂ row_at s.rows_of_file s.row_place in
        let node : e ≡ word_at f (nodes_at f + 4 * i) = ee ∙ ap₂ word_at s.times_of_file s.time_place in
        record {
          rows_of_file = s.rows_of_file;
          times_of_file = s.times_of_file;
          row_place = omega (arith, s.row_place);
          time_place = omega (arith, s.time_place);
          count = s.count;
          period = s.period;
          queues = slots_more _ none 16 _ _ _ slot s.queues queue;
          work = slots_more _ 0 16 _ _ _ slot s.work node;
          fines = λ t. let both = (and_true {a = sound} {b = fine_row row e} Iff.rfl Iff.rfl).0 t in below_next i (sym (ap₂ fine_row queue node) ∙ both.1) (s.fines both.0);
        }

  -- behind the last row the record is what the file says, and its rows are refused what 4 and 5 refuse of the file
  module _ {h : Header} (is : h ≡ header_of f) (within : i ≤ h.n) (over : h.n ≤ i) where
    last : i ≡ count_of f
    last = let n : h.n ≡ i = omega arith in sym n ∙ ap (λ (k : Header). k.n) is

    pub loaded : c ≡ chain_of f
    unfolding chain_of
    loaded = same_chain s.count s.period (s.queues ∙ ap (slots _ none 16) last) (s.work ∙ ap (slots _ 0 16) last)

    pub rows_all : first (range_check c h.queues h.nodes ∷ order_check c h.queues ∷ []) ≡ rows_refusal f
    unfolding rows_refusal
    rows_all = ap₂ (λ (k : Chain) (j : Header). first (range_check k j.queues j.nodes ∷ order_check k j.queues ∷ [])) loaded is

    pub rows_sound : sound ≡ true → out_of_range (ticks 4 c.period) ≡ rows_refusal f
    unfolding chain_of
    rows_sound t = Laws.fine_rows c h.queues h.nodes fines ∙ rows_all
      where
        row : (j : ℕ) → j < count_of f → row_of (chain_of f) j ≡ row_at f (queues_at f + 20 * j)
        row j l = slot_used (λ k. row_at f (queues_at f + 20 * k)) none 16 (count_of f) j none (omega (arith, places.count)) l

        time : (j : ℕ) → j < count_of f → work_of (chain_of f) j ≡ word_at f (nodes_at f + 4 * j)
        time j l = slot_used (λ k. word_at f (nodes_at f + 4 * k)) 0 16 (count_of f) j 0 (omega (arith, places.count)) l

        fines : AllFine (row_of c) (work_of c) c.n
        fines j l =
            let inside : j < count_of f = omega (arith, s.count) in
            rw (loaded, row j inside, time j inside) (s.fines t j (omega (arith, last)))
