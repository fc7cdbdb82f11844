-- `chainfile::writer::write` meets its contract: its three ways out, as `Writing` has them.
use Rattle.std.proofs.Common.{refl, sym, ◌∙◌, rules, arith}
use Rattle.chain.specs.Refusals.{or_left, or_right}
use Rattle.chain.specs.Said.{speaks}
use Rattle.chainfile.specs.Packed.{packed_length_law}
use Rattle.chainfile.proofs.Writing.{output_refused, output_done, write_parts, room_known}
use Rattle.chainfile.proofs.writer.write.Goals as goal

pub returns-in_err-check_chain : goal.returns-in_err-check_chain
returns-in_err-check_chain c =
    output_refused _ _ (search rules) (or_left _ c.in_err-check_chain.ensures (speaks c.in_err-check_chain.field-0.0) ∙ sym (write_parts _ _))

pub returns-in_err-test : goal.returns-in_err-test
returns-in_err-test c =
    output_refused _ _ (search rules) (or_right c.in_ok-check_chain.ensures refl c.in_err-test.ensures ∙ sym (write_parts _ _))

pub returns : goal.returns
returns c =
    output_done (or_right c.in_ok-check_chain.ensures refl c.in_ok-test.ensures ∙ sym (write_parts _ _))
    (omega (arith, packed_length_law c.args.chain, room_known _ _ c.in_ok-test.ensures)) c.put_chain.ensures
