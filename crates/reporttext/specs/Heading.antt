-- The first line, which is always the same (01, Report program).
--   begins s t      the text t begins with s
--   begins_true     that is so exactly where the first bytes of t are s
--   headed t        the text t begins with a report's first line
use Rattle.std.proofs.Math.Logic.Iff
use Rattle.std.specs.Prelude.{◌≡◌, refl, Bool, true, false, ◌&&◌, ◌↔◌, List, [], ◌∷◌, ℕ, eqb, length, get_or, take, drop}
use Rattle.std.proofs.Common.{sym, ap, ap₂, true≢false, arith, eq-eqb, eqb-true}
use Rattle.chain.specs.Tests.{and_true}
use Rattle.reporttext.specs.Text.{heading}

-- a text begins with another
unfoldable pub begins : List ℕ → List ℕ → Bool
begins [] t = true
begins (a ∷ s) [] = false
begins (a ∷ s) (b ∷ t) = eqb a b && begins s t

pub begins_true : (s t : List ℕ) → (begins s t ≡ true) ↔ (take (length s) t ≡ s)
unfolding begins
begins_true [] t = (λ e. refl, λ e. refl)
begins_true (a ∷ s) [] = (λ e. absurd (true≢false (sym e)), λ e. absurd (omega (arith, ap length e)))
begins_true (a ∷ s) (b ∷ t) = Iff.trans (and_true (λ e. eqb-true a b e, λ e. eq-eqb a b e) (begins_true s t)) (
  λ h. ap₂ ◌∷◌ (sym h.0) h.1,
  λ e. (sym (ap (λ (l : List ℕ). get_or l 0 0) e), ap (λ (l : List ℕ). drop 1 l) e),
)

-- a text begins with a report's first line
unfoldable pub headed : List ℕ → Bool
unfolding begins
headed t = begins heading t
