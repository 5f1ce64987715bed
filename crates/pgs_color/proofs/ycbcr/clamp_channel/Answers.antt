-- `clamp_channel` gives the byte of its sum: the laws of Clamping.antt, at the tests' literals.
-- Assumes nothing.
use Rattle.std.proofs.Common.{ℕ, ◌<◌, sym, ◌∙◌, subst}
use lib.Ieee.{of_bits, of_int, binary32, add}
use Rattle.pgs_color.specs.Bytes.{half}
use Rattle.pgs_color.proofs.Clamping.{Middle, middle, top, bottom}
use Rattle.pgs_color.proofs.ycbcr.clamp_channel.Goals.{Then-v-2}
use Rattle.pgs_color.proofs.ycbcr.clamp_channel.Goals as goal

-- where both tests lead to the cast
between : (c : Then-v-2) → Middle c.args.v (add binary32 c.args.v half)
unfolding of_bits of_int
between c = middle c.args.v c.if-v.false c.if-v-2.true

pub truncating_f32_to_u64-requires : goal.truncating_f32_to_u64-requires
unfolding of_bits of_int
truncating_f32_to_u64-requires c =
    record {
      lower_bound = (between (goal.at.truncating_f32_to_u64-requires c).Then-v-2).above;
      upper_bound = (between (goal.at.truncating_f32_to_u64-requires c).Then-v-2).below;
    }

pub overflow_cast-result : goal.overflow_cast-result
unfolding of_bits of_int
overflow_cast-result c = record { fits = subst (λ (n : ℕ). n < 256) (sym c.truncating_f32_to_u64.ensures) (between (goal.at.overflow_cast-result c).Then-v-2).small }

pub returns-then-v : goal.returns-then-v
unfolding of_bits of_int
returns-then-v c = top c.args.v c.if-v.true

pub returns-then-v-2 : goal.returns-then-v-2
unfolding of_bits of_int
returns-then-v-2 c = c.truncating_f32_to_u64.ensures ∙ (between (goal.at.returns-then-v-2 c).Then-v-2).byte

pub returns-else-v-2 : goal.returns-else-v-2
unfolding of_bits of_int
returns-else-v-2 c = bottom c.args.v c.if-v-2.false
