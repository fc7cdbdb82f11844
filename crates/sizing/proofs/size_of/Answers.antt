-- `sizing::size_of` meets its contract: minimum, naming count and capacity are the queue's, and the margin fits 32 bits.
use Rattle.std.proofs.Common.{◌≡◌, refl, ap, ◌∙◌, ℕ, le_trans, arith, ℤ, w32, SFits, to_z-of_z, rules}
use Rattle.words.specs.declared.Queue.{Queue}
use Rattle.onequeue.specs.Least.{least}
use Rattle.onequeue.specs.Capacity.{capacity, margin, Within}
use Rattle.onequeue.specs.declared.Row.{Row}
use Rattle.onequeue.specs.declared.Shown.{Shown}
use Rattle.sizing.specs.Sizes.{Parted, row_by, row_known, least_of, capacity_of, size_by, minimum_most, capacity_most}
use Rattle.sizing.proofs.size_of.Goals as goal

-- m, the minimum and naming count, and k, the capacity, are the queue's
module _ {q : Queue} {row : Row} (p : Parted q row) {m : Shown} {k : ℕ} (em : m ≡ least 0 row.produce row.threshold row.consume) (ek : k ≡ capacity q.capacity m.minimum) where
  least_is : m ≡ least_of q
  unfolding row_by
  least_is = em ∙ ap (λ (r : Row). least 0 r.produce r.threshold r.consume) p.parts

  capacity_is : k ≡ capacity_of q
  capacity_is = ek ∙ ap (λ (n : Shown). capacity q.capacity n.minimum) least_is

  within : Within k m.minimum
  within = rw (capacity_is, least_is) (record { capacity = capacity_most p.sound; minimum = le_trans (minimum_most p.sound) (omega arith) })

  line : (x y : ℕ) {z : ℤ} → z ≡ margin k m.minimum → record { x = x; y = y; minimum = m.minimum; by = m.by; capacity = k; margin = z } ≡ size_by q x y
  unfolding size_by
  line x y ez = rw (ez, capacity_is, least_is) refl

pub least-least-requires : goal.least-least-requires
least-least-requires c = rw c.requires.parts (row_known c.requires.sound)

pub margin-requires : goal.margin-requires
margin-requires c = within c.requires c.least-least.ensures c.capacity-capacity.ensures

pub returns : goal.returns
returns c =
    let h : SFits w32 c.margin.result = search rules in
    line c.requires c.least-least.ensures c.capacity-capacity.ensures c.args.x c.args.y (to_z-of_z h ∙ c.margin.ensures)
