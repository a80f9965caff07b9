-- After i turns of `put_bytes` the place begins with the first i bytes of data. Assumes nothing.
use Rattle.std.proofs.Common.{◌≡◌, take}
use Rattle.numbers.proofs.bytes.put_bytes.Given as goal

abbrev pub invariant-loop-i : goal.invariant-loop-i
invariant-loop-i l = take l.i l.place ≡ take l.i l.«data»
