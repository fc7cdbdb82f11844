-- What one queue sees of a history (01, Firing).
--   q                        the queue that N_q feeds and N_(q+1) empties
--   seen q i                 the events of queue q in one firing of N_i: a put, a take or none
--   events q h               its events in the history h
--   seen_cases               what holds of a put of N_q, of a take of N_(q+1) and of no event at any other node holds of each firing
--   Cut q h es               a beginning of h in which queue q sees es
--   cut                      there is one for the first events of each history
use Rattle.std.specs.Prelude.{◌≡◌, Bool, true, false, cond, ◌≢◌, ◌⊎◌, eqb}
use Rattle.std.proofs.Math.Path.{refl, sym, ap}
use Rattle.std.proofs.Common.{◌∙◌, inl, inr, ⊎_elim, arith, eqb-true}
use mathlib.Core.List.{List, [], ◌∷◌, ◌++◌}
use Prim.Native.Nat.{ℕ, suc, ◌+◌, ◌-◌}
use Rattle.std.proofs.lemmas.Bool.{eqb-false}
use Rattle.events.specs.Events.{Event, put, take, contents, Allowed, Settled}

-- a firing of N_q puts into queue q, one of N_(q+1) takes from it, and no other touches it
unfoldable pub seen : ℕ → ℕ → List Event
seen q i = cond (eqb i q) (put ∷ []) (cond (eqb i (suc q)) (take ∷ []) [])

-- the events of queue q in h, in order
unfoldable pub events : ℕ → List ℕ → List Event
unfolding seen
events q [] = []
events q (i ∷ h) = seen q i ++ events q h

-- what holds in each of the three cases holds of each firing
pub seen_cases : (q i : ℕ) (P : List Event → Type 0) → (i ≡ q → P (put ∷ [])) → (i ≡ suc q → P (take ∷ [])) → (i ≢ q → i ≢ suc q → P []) → P (seen q i)
unfolding seen
seen_cases q i P makes uses apart = by (eqb i q) refl (eqb i (suc q)) refl
  where
    by : (a : Bool) → eqb i q ≡ a → (b : Bool) → eqb i (suc q) ≡ b → P (cond a (put ∷ []) (cond b (take ∷ []) []))
    by true e b f = makes (eqb-true i q e)
    by false e true f = uses (eqb-true i (suc q) f)
    by false e false f = apart (eqb-false i q e) (eqb-false i (suc q) f)

-- h begins with firings in which queue q sees es
pub record Cut (q : ℕ) (h : List ℕ) (es : List Event) : Type 0 where
  pub before : List ℕ
  pub later : List ℕ
  pub parts : h ≡ before ++ later
  pub sees : events q before ≡ es

-- where l and `more` are es and `rest`: es goes on after l, and `more` is what es goes on with and `rest`
record Beyond (l more es rest : List Event) : Type 0 where
  pub on : List Event
  pub begins : l ++ on ≡ es
  pub ends : more ≡ on ++ rest

-- one firing is at most one event, so es is empty or goes on after it
beyond : (q i : ℕ) (more es rest : List Event) → seen q i ++ more ≡ es ++ rest → (es ≡ []) ⊎ Beyond (seen q i) more es rest
beyond q i more es rest = seen_cases q i (λ l. l ++ more ≡ es ++ rest → (es ≡ []) ⊎ Beyond l more es rest) (λ e. one put es) (λ e. one take es)
    (λ m n e. inr (record { on = es; begins = refl; ends = e }))
  where
    one : (x : Event) (es : List Event) → x ∷ more ≡ es ++ rest → (es ≡ []) ⊎ Beyond (x ∷ []) more es rest
    one x [] e = inl refl
    one x (y ∷ es) e = inr (record { on = es; begins = cc; ends = cc })

-- the first events of a history are all events of a beginning of it
pub cut : (q : ℕ) (h : List ℕ) (es rest : List Event) → events q h ≡ es ++ rest → Cut q h es
unfolding events
cut q [] [] rest e = record { before = []; later = []; parts = refl; sees = refl }
cut q [] (x ∷ es) rest e = let n : ◌≡◌ {A = ℕ} 0 1 = cc in absurd (omega arith)
cut q (i ∷ h) es rest e = ⊎_elim
    (λ z. record { before = []; later = i ∷ h; parts = refl; sees = sym z })
    (λ b. let k : Cut q h b.on = cut q h b.on rest b.ends in
    record { before = i ∷ k.before; later = k.later; parts = ap (λ g. i ∷ g) k.parts; sees = ap (λ g. seen q i ++ g) k.sees ∙ b.begins })
    (beyond q i (events q h) es rest e)

-- such events one after the other
pub allowed_append : (p τ c x : ℕ) (es more : List Event) → Allowed p τ c x es → Allowed p τ c (contents p c x es) more → Allowed p τ c x (es ++ more)
unfolding Allowed contents
allowed_append p τ c x [] more a b = b
allowed_append p τ c x (put ∷ es) more a b = allowed_append p τ c (x + p) es more a b
allowed_append p τ c x (take ∷ es) more a b = (a.0, allowed_append p τ c (x - c) es more a.1 b)

-- and of settled ones
pub settled_append : (p τ c x : ℕ) (es more : List Event) → Settled p τ c x es → Settled p τ c (contents p c x es) more → Settled p τ c x (es ++ more)
unfolding Settled contents
settled_append p τ c x [] more a b = b
settled_append p τ c x (put ∷ es) more a b = (a.0, settled_append p τ c (x + p) es more a.1 b)
settled_append p τ c x (take ∷ es) more a b = settled_append p τ c (x - c) es more a b
