-- `sizing::drawn` meets its contract: the walk refuses 6, or 7 is said of it, or it has drawn the plan.
use Rattle.std.proofs.Common.{ℕ, zero-add, ◌≡◌, refl, sym, ap, ◌∙◌, arith}
use Rattle.words.specs.Table.{tab}
use Rattle.chain.specs.Refusals.{first}
use Rattle.sizing.specs.Checks.{capacity_test, capacity_check}
use Rattle.sizing.specs.declared.QueueSize.{QueueSize}
use Rattle.sizing.specs.Sizes.{size_by}
use Rattle.sizing.specs.Plan.{drawn_none, drawn_more, drawn_plans}
use Rattle.sizing.proofs.Walking.{walk_says}
use Rattle.sizing.proofs.Drawing.{short_next}
use Rattle.sizing.proofs.drawn.Goals as goal

pub loop-i-init : goal.loop-i-init
unfolding first tab
loop-i-init c = record { walked = c.start-walk.ensures; short = refl; drawn = drawn_none _ _ c.requires.long }

pub loop-i-preserved : goal.loop-i-preserved
unfolding size_by
loop-i-preserved c = record {
  walked = c.in_ok-size.ensures.walked;
  short = rw c.and-short.ensures (short_next _ _ _ _ c.loop-i.invariant.short c.in_ok-size.ensures.line c.check_capacity.ensures);
  drawn = rw zero-add (drawn_more {c = c.args.chain.now} c.requires.chain.count.1 c.loop-i.invariant.drawn c.loop-i-test.true (ap (λ (q : QueueSize). q.capacity) c.in_ok-size.ensures.line));
}

pub returns : goal.returns
unfolding capacity_check
returns c =
    let e : c.loop-i.i ≡ c.args.chain.now.n = omega arith in
    record {
      sizes = c.in_ok-load.ensures.says ∙ sym (walk_says c.loop-i.invariant.walked e);
      short = c.loop-i.invariant.short ∙ ap (λ (k : ℕ). first (tab k (capacity_test c.args.chain.now))) e;
      plans = drawn_plans (omega arith) c.loop-i.invariant.drawn;
    }
