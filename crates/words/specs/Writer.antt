-- A writer on the caller's bytes, which keeps its place on them.
--   Begins o w    w is at the front of the lent bytes o
--   Free w k      w has room for k bytes
--   Wrote v t w   w is v after the text t: on the same lent bytes, and behind t
--   nothing       no text
--   next          one text after the other
--   wrote         the lent bytes then: those before the writer's place, the text, and those behind it, which are as they were
--   kept          so what stood before the writer's place stands there still
--   ended         what a writer from the front on leaves of the lent bytes, once they are given back as m
use Rattle.std.specs.Prelude.{◌≡◌, refl, List, [], ◌++◌, ℕ, length, take, drop}
use Rattle.std.proofs.Common.{sym, ap, ◌∙◌, arith, append_assoc, take_at}
use Rattle.std.proofs.lemmas.List.{length-take}
use Rattle.std.proofs.lemmas.List.Edits.{sets-eq}
use Rattle.std.specs.Borrow.{MutBor}
use Rattle.words.specs.Put.{Room, Puts, puts_none, then}
use Rattle.words.specs.declared.Writer.{Writer}

pub record Begins (o : MutBor (List ℕ)) (w : Writer) : Type 0 where
  pub same : w.out.ghost_name ≡ o.ghost_name
  pub bytes : w.out.now ≡ o.now
  pub place : w.at ≡ 0

abbrev pub Free : Writer → ℕ → Type 0
Free w k = Room w.out.now w.at k

pub record Wrote (v : Writer) (t : List ℕ) (w : Writer) : Type 0 where
  pub same : w.out.ghost_name ≡ v.out.ghost_name
  pub as_long : length w.out.now ≡ length v.out.now
  pub puts : Puts v.out.now v.at t w.out.now w.at

pub nothing : (w : Writer) → Wrote w [] w
nothing w = record { same = refl; as_long = refl; puts = puts_none }

pub next : {u v w : Writer} {s t : List ℕ} → Wrote u s v → Wrote v t w → Wrote u (s ++ t) w
next p q = record { same = q.same ∙ p.same; as_long = q.as_long ∙ p.as_long; puts = then p.puts q.puts }

pub wrote : {v w : Writer} {t : List ℕ} → Free v (length t) → Wrote v t w → w.out.now ≡ take v.at v.out.now ++ t ++ drop w.at v.out.now
wrote {v} {w} {t} f p = rw p.puts.next (p.puts.holds ∙ sets-eq t v.out.now v.at f.fits)

pub kept : {v w : Writer} {t : List ℕ} → Free v (length t) → Wrote v t w → take v.at w.out.now ≡ take v.at v.out.now
kept {v} {w} {t} f p =
    let before : List ℕ = take v.at v.out.now in
    let behind : List ℕ = drop w.at v.out.now in
    let whole : length before ≡ v.at = omega (arith, f.fits, length-take v.at v.out.now) in
    ap (take v.at) (wrote f p ∙ append_assoc before t behind) ∙ take_at before (t ++ behind) v.at whole

pub ended : {o : MutBor (List ℕ)} {v w : Writer} {t m : List ℕ} → Begins o v → Wrote v t w → (o.ghost_name ≡ w.out.ghost_name → m ≡ w.out.now) → Puts o.now 0 t m w.at
ended {w} {t} b p h =
    rw (b.bytes, b.place) at (rw (← h (sym (p.same ∙ b.same))) at p.puts)
