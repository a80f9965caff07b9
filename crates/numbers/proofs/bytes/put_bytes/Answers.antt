-- `put_bytes` meets its contract: the place is all of data. Assumes nothing.
use Rattle.std.proofs.Common.{◌≡◌, length, ◌∙◌, sym}
use native.Mathlib.Omega.{arith}
use lib.ListN.{length-drop}
use lib.Seq.{take_all, length-take-le}
use Rattle.numbers.proofs.Stores.{put_part}
use Rattle.numbers.proofs.bytes.put_bytes.Goals as goal

pub returns : goal.returns
returns c =
    let place = c.loop-i.place in
    let bytes = c.args.«data».now in
    let long : length place ≡ length bytes = c.loop-i.auto.place ∙ length-take-le _ _ (omega (arith, c.requires, length-drop c.args.at c.args.group.now)) ∙ omega arith in
    let same : place ≡ bytes = sym (take_all c.loop-i.i place (omega (arith, long))) ∙ c.loop-i.invariant ∙ take_all c.loop-i.i bytes (omega arith) in
    rw same (put_part c.args.group.now c.args.at _ bytes c.requires (omega arith))
