-- `times_alpha` meets its contract, by one computation over the 256 bytes. Assumes nothing.
use borrow.Author.Rules.{rules}
use mathlib.Core.Path.{◌≡◌}
use mathlib.Core.Bool.{Bool}
use Prim.Native.Nat.{ℕ, ◌*◌, ◌/◌, ◌%◌, ◌<◌}
use lib.Dec.{T, eqb, eqb→eq}
use lib.Bits.{bit_xor}
use Rattle.numbers.proofs.Computed.{below}
use Rattle.field.specs.Field.{◌⊕◌, times_alpha, polynomial}
use Rattle.field.proofs.times_alpha.Goals as goal

-- Doubling a byte: its seven low bits go one up, and the eighth turns into 29.
stepped : ℕ → Bool
stepped b = eqb (bit_xor (b % 128 * 2) (b / 128 * 29)) (times_alpha b)

stepped_all : (b : ℕ) → b < 256 → T (stepped b)
unfolding stepped times_alpha ◌⊕◌ polynomial
stepped_all b h = below stepped 256 tt b h

times_alpha_stepped : (b : ℕ) → b < 256 → bit_xor (b % 128 * 2) (b / 128 * 29) ≡ times_alpha b
unfolding stepped
times_alpha_stepped b h = eqb→eq (bit_xor (b % 128 * 2) (b / 128 * 29)) (times_alpha b) (stepped_all b h)

pub returns : goal.returns
returns c = times_alpha_stepped c.args.byte (search rules)
