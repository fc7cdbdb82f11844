-- Orders of firings by counts alone, with no state, capacity, limit or call in what is said of them, and the exact counts of each (01, Firing; 004, Lemma 5.1).
--   c, j, i, k               a chain, a queue (N_j feeds it and N_(j+1) empties it), a node, a number of source firings
--   g, h, times i h          lists of nodes in the order in which they fire, every queue being as it starts; how often N_i stands in h (Histories)
--   p_of, τ_of, c_of c j, start (row_of c j)
--                            p, τ and c of queue j, and what it starts with, 0
--   MayFire c h i            N_i may fire after h
--   EachMay c h              each firing of h is of a node that then may fire
--   NearestMay c h i, ByRule c h
--                            N_i is the node nearest the sink that may fire after h; each firing of h is of that node
--   OnlySource c h           after h only the source may fire
--   Exhausted c k h          h fires the source k times, and nodes that may fire until only the source may
--   schedule c k             the firings of the immediate run of k source firings (Immediate)
--   one_order                which are the one order by the rule that fires the source k times and leaves only the source to fire
--   rule_exhausted, fires_exhausted
--                            that order is Exhausted, and so is every permitted order that leaves only the source to fire, by the rule or not
--   count_is, exact_count    the counts of all of these are 01's F; so are the rates exact, with no limit to the counts (Demand3: exact_rate)
use Rattle.std.specs.Prelude.{◌≡◌, refl, ◌↔◌, ℕ, zero, suc, ◌+◌, ◌-◌, ◌*◌, ◌/◌, ◌≤◌, ◌<◌}
use Rattle.std.proofs.Common.{sym, ap, ◌∙◌, arith}
use Rattle.std.proofs.Math.Path.{subst}
use Rattle.std.proofs.Math.Logic.{by_cases}
use mathlib.Core.List.{List, [], ◌∷◌, ◌++◌, append-nil, append_assoc}
use Rattle.std.proofs.Math.Decide.{dec_le, dec_lt}
use Rattle.ardenquill.specs.Chains.{row_of, Sound}
use Rattle.ardenquill.specs.Analyses.{start, Accepted}
use Rattle.ardenquill.specs.Runs.{held_at, fresh_run, fired, Over, May, fire_accepts}
use Rattle.ardenquill.specs.Histories.{times, after, Permitted, EachFiring, after_append, each_before, counted}
use Rattle.ardenquill.specs.Immediate.{F, fires, fires_below, fires_from, Reached, reached_fresh, reached_fired, reached_after, Calm, counts, schedule, Next, Follows, rule, ends, source, unique}
use Rattle.ardenquill.specs.Records.{Chain, Run}
use Rattle.promises.specs.Replay.{p_of, τ_of, c_of, Accepts, replay_answer, Fires, Low, accepts_is}
use Rattle.promises.specs.Laws.{fed_by, each_firing, one_firing, accepted, permits, state_is}

-- "A node other than N_0 may fire when its input queue holds at least τ; N_0 always": what N_j's firings put into it is what N_(j+1)'s took out, and τ or more
abbrev pub MayFire : Chain → List ℕ → ℕ → Type 0
MayFire c h zero = Unit
MayFire c h (suc j) = τ_of c j + c_of c j * times (suc j) h ≤ start (row_of c j) + p_of c j * times j h

-- each firing is of a node of the chain that may fire after those before it
abbrev pub EachMay : Chain → List ℕ → Type 0
EachMay c h = (before later : List ℕ) (i : ℕ) → h ≡ before ++ (i ∷ later) → (i ≤ c.n) × MayFire c before i

-- "among those that may, the one nearest the sink goes first", and so the source where no other may
pub record NearestMay (c : Chain) (h : List ℕ) (i : ℕ) : Type 0 where
  pub node : i ≤ c.n
  pub may : MayFire c h i
  pub nearest : (j : ℕ) → j ≤ c.n → MayFire c h j → j ≤ i

-- "No source firing happens while another node may fire, and among those that may, the one nearest the sink goes first"
abbrev pub ByRule : Chain → List ℕ → Type 0
ByRule c h = (before later : List ℕ) (i : ℕ) → h ≡ before ++ (i ∷ later) → NearestMay c before i

-- no node but the source may fire
abbrev pub OnlySource : Chain → List ℕ → Type 0
OnlySource c h = (i : ℕ) → i ≤ c.n → MayFire c h i → i ≡ 0

-- k source firings, and firings of nodes that may fire until no other may
pub record Exhausted (c : Chain) (k : ℕ) (h : List ℕ) : Type 0 where
  pub each : EachMay c h
  pub source : times 0 h ≡ k
  pub ends : OnlySource c h

-- what h leads to, from a fresh start
abbrev left : Chain → List ℕ → Run
left c h = after c (fresh_run c) h

-- of a state that firings lead to, MayFire is Over
module _ {c : Chain} (a : Accepted c) (h : List ℕ) (r : Reached c (left c h)) where
  over_is : (i : ℕ) → i ≤ c.n → MayFire c h i ↔ Over c (left c h) i
  over_is zero l = (λ m. m, λ o. o)
  over_is (suc j) l =
      let tokens : start (row_of c j) + p_of c j * times j h ≡ held_at (left c h) j + c_of c j * times (suc j) h =
      rw (← counted c a h j (omega arith), ← counted c a h (suc j) l) (r.balance j l) in
      (λ m. omega (arith, m, tokens), λ o. omega (arith, o, tokens))

  -- and a node that may not fire is below threshold
  below : (j : ℕ) → j < c.n → (MayFire c h (suc j) → ⊥) → held_at (left c h) j < τ_of c j
  below j l n = by_cases (dec_lt (held_at (left c h) j) (τ_of c j)) (λ b. b) (λ f. absurd (n ((over_is (suc j) l).1 (omega arith))))

  -- so OnlySource is Calm
  only_calm : OnlySource c h → Calm c (left c h) 0
  only_calm only j m l = below j l (λ may. let z : suc j ≡ 0 = only (suc j) l may in omega arith)

  calm_only : Calm c (left c h) 0 → OnlySource c h
  calm_only calm zero l may = refl
  calm_only calm (suc j) l may = absurd (omega (arith, (over_is (suc j) l).0 may, calm j (omega arith) l))

  -- and NearestMay is Next
  nearest_next : {i : ℕ} → NearestMay c h i → Next c (left c h) i
  nearest_next {i} n = record {
    node = n.node;
    over = (over_is i n.node).0 n.may;
    nearest = λ j m l. below j l (λ may. omega (arith, n.nearest (suc j) l may));
  }

  next_nearest : {i : ℕ} → Next c (left c h) i → NearestMay c h i
  next_nearest {i} n = record { node = n.node; may = (over_is i n.node).1 n.over; nearest = first }
    where
      first : (j : ℕ) → j ≤ c.n → MayFire c h j → j ≤ i
      first zero l may = omega arith
      first (suc j) l may = by_cases (dec_le (suc j) i) (λ f. f) (λ f. absurd (omega (arith, n.nearest j (omega arith) l, (over_is (suc j) l).0 may)))

module _ {c : Chain} (a : Accepted c) where
  sound : Sound c
  sound = a.chain

  -- after g, each firing of h of a node that may fire leads to a state that firings lead to
  reached_from : (g h : List ℕ) → Reached c (left c g) → ((before later : List ℕ) (i : ℕ) → h ≡ before ++ (i ∷ later) → (i ≤ c.n) × MayFire c (g ++ before) i) → Reached c (left c (g ++ h))
  unfolding after
  reached_from g [] r each = rw (append-nil g) r
  reached_from g (i ∷ h) r each =
      let m : (i ≤ c.n) × MayFire c g i = subst (λ (l : List ℕ). (i ≤ c.n) × MayFire c l i) (append-nil g) (each [] h i refl) in
      let once : Reached c (left c (g ++ (i ∷ []))) = rw (after_append c (fresh_run c) g (i ∷ [])) (reached_fired sound r i m.0 ((over_is a g r i m.0).0 m.1)) in
      subst (λ (l : List ℕ). Reached c (left c l)) (append_assoc g (i ∷ []) h)
      (reached_from (g ++ (i ∷ [])) h once
      (λ b k j e. subst (λ (l : List ℕ). (j ≤ c.n) × MayFire c l j) (sym (append_assoc g (i ∷ []) b)) (each (i ∷ b) k j (ap (λ (l : List ℕ). i ∷ l) e))))

  -- from a fresh start
  each_reached : (h : List ℕ) → EachMay c h → Reached c (left c h)
  unfolding after
  each_reached h each = reached_from [] h (reached_fresh sound) each

  -- and at each moment
  reached_at : (h : List ℕ) → EachMay c h → (g k : List ℕ) → h ≡ g ++ k → Reached c (left c g)
  reached_at h each g k e = each_reached g (λ b l i f. each b (l ++ k) i (e ∙ ap (λ (x : List ℕ). x ++ k) f ∙ append_assoc b (i ∷ l) k))

  -- firings of the node nearest the sink lead to one, too
  follows_reached : (s : Run) (h : List ℕ) → Reached c s → Follows c s h → Reached c (after c s h)
  unfolding after EachFiring
  follows_reached s [] r f = r
  follows_reached s (i ∷ h) r f = follows_reached (fired c s i) h (reached_fired sound r i f.0.node f.0.over) f.1

  -- by the rule, two ways
  rule_each : (h : List ℕ) → ByRule c h → EachMay c h
  rule_each h r b l i e = ((r b l i e).node, (r b l i e).may)

  rule_follows : (h : List ℕ) → ByRule c h → Follows c (fresh_run c) h
  rule_follows h r = each_firing c _ (fresh_run c) h (λ g k i e. nearest_next a g (reached_at h (rule_each h r) g (i ∷ k) e) (r g k i e))

  follows_rule : (h : List ℕ) → Follows c (fresh_run c) h → ByRule c h
  follows_rule h f g k i e =
      let parts : Follows c (fresh_run c) (g ++ (i ∷ k)) = subst (Follows c (fresh_run c)) e f in
      next_nearest a g (follows_reached (fresh_run c) g (reached_fresh sound) (each_before c _ (fresh_run c) g (i ∷ k) parts)) (one_firing c _ (fresh_run c) g i k parts)

  -- the counts of all of them
  pub count_is : {k : ℕ} {h : List ℕ} → Exhausted c k h → (i : ℕ) → i ≤ c.n → times i h ≡ F c k i
  count_is {k} {h} x i l =
      let r : Reached c (left c h) = each_reached h x.each in
      sym (counted c a h i l) ∙ counts sound r (only_calm a h r x.ends) i l ∙ ap (λ (n : ℕ). F c n i) (counted c a h 0 (omega arith) ∙ x.source)

module _ (c : Chain) (ok : Accepts c) where
  known : Accepted c
  known = (accepts_is c).0 ok

  -- "a run of k source firings from a fresh start", of every k: there is one such order by the rule that leaves only the source to fire, and no other
  pub one_order : (k : ℕ) (h : List ℕ) → (h ≡ schedule c k) ↔ (ByRule c h × ((times 0 h ≡ k) × OnlySource c h))
  one_order k h = (λ e. subst (λ (l : List ℕ). ByRule c l × ((times 0 l ≡ k) × OnlySource c l)) (sym e) is, only)
    where
      is : ByRule c (schedule c k) × ((times 0 (schedule c k) ≡ k) × OnlySource c (schedule c k))
      is =
          let f : Follows c (fresh_run c) (schedule c k) = rule known.chain k in (
            follows_rule known (schedule c k) f,
            (source known.chain k, calm_only known (schedule c k) (follows_reached known (fresh_run c) (schedule c k) (reached_fresh known.chain) f) (ends known.chain k)),
          )

      only : ByRule c h × ((times 0 h ≡ k) × OnlySource c h) → h ≡ schedule c k
      only p = unique known.chain h (rule_follows known h p.0) (only_calm known h (each_reached known h (rule_each known h p.0)) p.1.1) ∙ ap (schedule c) p.1.0

  -- its firings are of nodes that may fire
  pub rule_exhausted : (k : ℕ) → Exhausted c k (schedule c k)
  rule_exhausted k = let p = (one_order k (schedule c k)).0 refl in record { each = rule_each known (schedule c k) p.0; source = p.1.0; ends = p.1.1 }

  -- "Exact counts: F_0 = k; F_(i+1) is 0 while p×F_i is below τ, else (p×F_i − τ)/c rounded down, plus 1 (004, Lemma 5.1)", F_i being how often N_i stands in the order
  pub exact_count : {k : ℕ} {h : List ℕ} → Exhausted c k h
      → (times 0 h ≡ k)
      × ((i : ℕ) → i < c.n → (p_of c i * times i h < τ_of c i → times (suc i) h ≡ 0) × (τ_of c i ≤ p_of c i * times i h → times (suc i) h ≡ (p_of c i * times i h - τ_of c i) / c_of c i + 1))
  exact_count {k} {h} x = (
    x.source,
    λ i l.
        let by = count_is known x (suc i) l ∙ fed_by c k i ∙ ap (λ (m : ℕ). fires (τ_of c i) (c_of c i) (p_of c i * m)) (sym (count_is known x i (omega arith))) in
        (λ b. by ∙ fires_below _ _ _ b, λ b. by ∙ fires_from _ _ _ b),
  )

-- a permitted order, by the rule or not, that leaves no node but the source over threshold
pub fires_exhausted : (c : Chain) (h : List ℕ) → Fires c h → Low c (replay_answer c h).run → Exhausted c (times 0 h) h
fires_exhausted c h ok low = record { each = each; source = refl; ends = calm_only a h (reached_after a.chain h (permits c h ok)) (λ j m l. rw (state_is c h ok) at (low j l)) }
  where
    a : Accepted c
    a = accepted c h ok

    each : EachMay c h
    each g k i e =
        let parts : Permitted c (fresh_run c) (g ++ (i ∷ k)) = subst (Permitted c (fresh_run c)) e (permits c h ok) in
        let may : May c (left c g) i = ((fire_accepts c (left c g) i).0 (one_firing c _ (fresh_run c) g i k parts)).1.1 in
        (may.node, (over_is a g (reached_after a.chain g (each_before c _ (fresh_run c) g (i ∷ k) parts)) i may.node).1 may.over)
