-- `flow::pour` meets its contract: each part that is copied in holds what it is a copy of, and the rest is as it was.
use Rattle.std.proofs.Common.{◌≡◌, List, ℕ, ◌+◌, ◌≤◌, ◌<◌, sym, ◌∙◌, arith, rules, length, get_or}
use Rattle.std.proofs.lemmas.List.{places, set-get_or}
use Rattle.std.proofs.lemmas.Slice.{overwrites}
use borrow.Rule.Slice.PartMut.{put_mid}
use Rattle.state.specs.State.{count_at}
use Rattle.state.specs.declared.Run.{Run}
use Rattle.flow.specs.Flow.{count_in}
use Rattle.flow.specs.Poured.{Full}
use Rattle.flow.proofs.pour.Goals as goal

-- m is l with the list p copied in from place a on
record Copied (l : List ℕ) (a : ℕ) (p m : List ℕ) : Type 0 where
  long : length m ≡ length l
  there : (j : ℕ) → j < length p → get_or m (a + j) 0 ≡ get_or p j 0
  before : (y : ℕ) → y < a → get_or m y 0 ≡ get_or l y 0
  after : (y : ℕ) → a + length p ≤ y → get_or m y 0 ≡ get_or l y 0

copied : (l p : List ℕ) (a k : ℕ) → a + k ≤ length l → length p ≡ k → Copied l a p (put_mid a k l p)
copied l p a k w e = record {
  long = search (arith, overwrites);
  there = λ j h. search (arith, places);
  before = λ y h. search (arith, places);
  after = λ y h. search (arith, places);
}

-- the counts, and then what the queues hold
both : {l m o : List ℕ} {s : Run} → length s.counts ≡ 17 → length s.held ≡ 16 → Copied l 48 s.counts m → Copied m 65 s.held o → Full l s o
both {l} {m} {o} {s} wide deep f g = record {
  before = o;
  poured = record {
    reach = omega arith;
    long = g.long ∙ f.long;
    counts = λ j h. count j (omega arith);
    holds = λ j h. g.there j (omega (arith, deep));
    rest = λ y h. g.before y (omega arith) ∙ f.before y h;
    size = g.after 82 (omega (arith, deep)) ∙ f.after 82 (omega (arith, wide));
  };
  last = rw (← count 16 (omega arith)) (sym (set-get_or o 64 0));
}
  where
    count : (j : ℕ) → j < 17 → count_in o j ≡ count_at s j
    count j h = g.before (48 + j) (omega arith) ∙ f.there j (omega (arith, wide))

pub returns-clause-full : goal.returns-clause-full
returns-clause-full c =
    let wide : length c.args.run.counts ≡ 17 = search rules in
    let deep : length c.args.run.held ≡ 16 = search rules in
    let f = copied c.args.flow.now c.args.run.counts 48 17 (omega (arith, c.requires)) wide in
    rw (c.copy_from_slice-2.ensures.after, c.copy_from_slice.ensures.after) (both wide deep f (copied _ c.args.run.held 65 16 (omega (arith, f.long, c.requires)) deep))
