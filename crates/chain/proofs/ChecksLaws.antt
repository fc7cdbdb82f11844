-- Laws of specs/Checks.antt that rest on a definition which an edit of must-fail/ changes.
-- The checks of a chain's own numbers, 2, 4 and 5, which its file and its record share (01, Numbers a call may refuse with).
--   row_values, row_places     they are the row's words, four bytes apart
--   count-, range-, order_exact
--                              each check speaks exactly under its condition
--   count-, field-, row_silent, count_known
--                              and is silent exactly where it does not hold
--   count-, range-, order_only each check speaks with its own number only
--   record_2, record_4, record_5
--                              when a record is refused with each number
use Rattle.std.proofs.Math.Logic.Iff
use Rattle.std.specs.Prelude.{◌≡◌, refl, true, ◌↔◌, List, [], ◌∷◌, map, ℕ, ◌+◌, ◌*◌, ◌≤◌, ◌<◌, ltb, get_or, take}
use Rattle.std.proofs.Common.{sym, ◌∙◌, add-zero, arith, lt-ltb, ltb-true}
use Rattle.std.proofs.Math.Logic.{true-and}
use Rattle.std.proofs.lemmas.List.{length-map}
use Rattle.std.proofs.Math.ListN.{get_or-map}
use Rattle.words.specs.Table.{tab}
use Rattle.words.specs.Rows.{row}
use Rattle.words.specs.declared.Queue.{Queue}
use Rattle.chain.specs.Tests.{outside, Out, In, outside_true, outside_false, below_false}
use Rattle.chain.specs.Refusals.{silent_as, Silents, Numbered, refused, fine, Silent, First}
use Rattle.chain.proofs.RefusalsLaws.{exact_at}
use Rattle.chain.specs.Refusals.{first_is, Lowest, lowest_is, Only, only_test, only_map, only_tab, test_exact, test_silent}
use Rattle.chain.specs.Record.{row_of}
use Rattle.chain.specs.Refusal.{Refusal}
use Rattle.chain.specs.declared.Chain.{Chain}
use Rattle.chain.specs.Checks.{Field, field, row_fields, fields, count_check, out_of_range, range_check, overdrawn, order_check}
use Rattle.chain.specs.Checks.{record_range, chain_checks, chain_refusal, field_exact, field_silent, field_at, FirstOut, FirstOver, chain_numbers}

-- field k of a row is the row's word k, and stands 4 * k bytes behind where the row does
pub row_values : (q : Queue) (at : ℕ) → map (λ (f : Field). f.value) (row_fields q at) ≡ row q
unfolding row_fields
row_values q at = refl

pub row_places : (q : Queue) (at : ℕ) → map (λ (f : Field). f.place) (row_fields q at) ≡ tab 5 (λ k. at + 4 * k)
unfolding row_fields tab
row_places q at = rw (add-zero at)

pub count_exact : (L n : ℕ) → (count_check n ≡ refused 2 L) ↔ (Out 1 16 n × (L ≡ 0))
count_exact L n = Iff.trans (test_exact 2 L 0 (λ e. omega arith) (outside 1 16 n)) (Iff.and (outside_true 1 16 n) Iff.rfl)

pub count_silent : (n : ℕ) → Silent (count_check n) ↔ In 1 16 n
count_silent n = Iff.trans (test_silent 2 0 (λ e. omega arith) (outside 1 16 n)) (outside_false 1 16 n)

-- the same of an answer that code was given
pub count_known : {r : Refusal} (n : ℕ) → r ≡ count_check n → Silent r → In 1 16 n
count_known n e z = (count_silent n).0 (silent_as e z)

pub range_exact : (L : ℕ) (c : Chain) (q w : ℕ) → (range_check c q w ≡ refused 4 L) ↔ FirstOut (fields c q w) L
unfolding range_check
range_exact L c q w = Iff.trans (first_is 4 L (λ e. omega arith) (map out_of_range fs)) (out, back)
  where
    fs : List Field
    fs = fields c q w

    at_map : (k : ℕ) → get_or (map out_of_range fs) k fine ≡ out_of_range (field_at fs k)
    at_map k = get_or-map out_of_range fs k (field 0 0 0 0)

    out : First (map out_of_range fs) 4 L → FirstOut fs L
    out f =
        let e = (field_exact L (field_at fs f.at)).0 (sym (at_map f.at) ∙ f.says) in
        record {
          at = f.at;
          inside = rw (length-map fs out_of_range) at f.inside;
          wrong = e.0;
          place = e.1;
          before = λ j l. (field_silent (field_at fs j)).0 (silent_as (at_map j) (f.before j l));
        }

    back : FirstOut fs L → First (map out_of_range fs) 4 L
    back f = record {
      at = f.at;
      inside = rw (length-map fs out_of_range) f.inside;
      says = at_map f.at ∙ (field_exact L (field_at fs f.at)).1 (f.wrong, f.place);
      before = λ j l. silent_as (sym (at_map j)) ((field_silent (field_at fs j)).1 (f.before j l));
    }

pub row_silent : (q : Queue) (at : ℕ) → Silent (overdrawn q at) ↔ (q.consume ≤ q.threshold)
row_silent q at = Iff.trans (test_silent 5 (at + 8) (λ e. omega arith) _) (below_false _ _)

pub order_exact : (L : ℕ) (c : Chain) (q : ℕ) → (order_check c q ≡ refused 5 L) ↔ FirstOver c q L
unfolding order_check
order_exact L c q = Iff.trans (lowest_is 5 L (λ e. omega arith) (λ i. overdrawn (row_of c i) (q + 20 * i)) c.n) (out, back)
  where
    says : (i : ℕ) → (overdrawn (row_of c i) (q + 20 * i) ≡ refused 5 L) ↔ ((ltb (row_of c i).threshold (row_of c i).consume ≡ true) × (L ≡ q + 20 * i + 8))
    says i = test_exact 5 L (q + 20 * i + 8) (λ e. omega arith) _

    out : Lowest (λ i. overdrawn (row_of c i) (q + 20 * i)) c.n 5 L → FirstOver c q L
    out f =
        let e = (says f.at).0 f.says in
        record {
          row = f.at;
          inside = f.inside;
          over = ltb-true _ _ e.0;
          place = e.1;
          before = λ j l. (row_silent (row_of c j) (q + 20 * j)).0 (f.before j l);
        }

    back : FirstOver c q L → Lowest (λ i. overdrawn (row_of c i) (q + 20 * i)) c.n 5 L
    back f = record {
      at = f.row;
      inside = f.inside;
      says = (says f.row).1 (lt-ltb _ _ f.over, f.place);
      before = λ j l. (row_silent (row_of c j) (q + 20 * j)).1 (f.before j l);
    }

-- each check speaks with its own number only
pub count_only : (n : ℕ) → Only 2 (count_check n)
count_only n = only_test 2 0 (outside 1 16 n)

pub range_only : (c : Chain) (q w : ℕ) → Only 4 (range_check c q w)
unfolding range_check
range_only c q w = only_map 4 out_of_range (λ f. only_test 4 f.place (outside f.least f.most f.value)) (fields c q w)

pub order_only : (c : Chain) (q : ℕ) → Only 5 (order_check c q)
unfolding order_check
order_only c q = only_tab 5 _ (λ i. only_test 5 (q + 20 * i + 8) (ltb (row_of c i).threshold (row_of c i).consume)) c.n

pub chain_numbered : (c : Chain) → Numbered chain_numbers (chain_checks c)
unfolding Numbered
chain_numbered c = (count_only c.n, (range_only c 20 (20 + 20 * c.n), (order_only c 20, tt)))

-- a record is refused with a number exactly when no earlier check speaks and the number's own condition holds
module _ (c : Chain) (L : ℕ) where
  record_at : (k : ℕ) → k < 3 → (chain_refusal c ≡ refused (get_or chain_numbers k 0) L) ↔ (Silents (take k (chain_checks c)) × (get_or (chain_checks c) k fine ≡ refused (get_or chain_numbers k 0) L))
  unfolding chain_refusal
  record_at k l = exact_at chain_numbers (chain_checks c) (chain_numbered c) tt k L l

  pub record_2 : (chain_refusal c ≡ refused 2 L) ↔ (Out 1 16 c.n × (L ≡ 0))
  unfolding Silents
  record_2 = Iff.trans (record_at 0 (omega arith)) (Iff.trans true-and (count_exact L c.n))

  pub record_4 : (chain_refusal c ≡ refused 4 L) ↔ (Silents (count_check c.n ∷ []) × FirstOut (fields c 20 (20 + 20 * c.n)) L)
  record_4 = Iff.trans (record_at 1 (omega arith)) (Iff.and Iff.rfl (range_exact L c 20 (20 + 20 * c.n)))

  pub record_5 : (chain_refusal c ≡ refused 5 L) ↔ (Silents (count_check c.n ∷ record_range c ∷ []) × FirstOver c 20 L)
  record_5 = Iff.trans (record_at 2 (omega arith)) (Iff.and Iff.rfl (order_exact L c 20))
