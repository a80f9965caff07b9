-- `judge_reading` meets its contract: the faults block by block. Assumes nothing.
use mathlib.Core.Path.{◌≡◌, refl, ap, ◌∙◌}
use mathlib.Core.List.{List, []}
use Prim.Native.Nat.{ℕ, ◌/◌, ◌<◌}
use borrow.Author.Rules.{rules}
use lib.ListN.{length, get_or}
use Rattle.std.specs.Simd.{first_chunks}
use Rattle.block.specs.Faults.{block_fault}
use mathlib.Core.Bool.{false}
use lib.Dec.{eqb}
use Rattle.answer.specs.NotZero.{track_not_zero}
use Rattle.answer.specs.Numbers.{track_number}
use Rattle.answer.specs.Results.{number_of}
use Rattle.track.specs.Answer.{Refused, answer_of}
use Rattle.track.proofs.BlockLaws.{block_read}
use Rattle.track.proofs.Judged.{fault_of, judged_fault, judged_on, judged_all, read_blocks}
use Rattle.track.proofs.blocks.judge_reading.Goals as goal

-- A block is judged as it stands in the track.
met : (area : ℕ) (track : List ℕ) (blocks : List (List ℕ)) (block k fault : ℕ) → length track ≡ 560 → blocks ≡ first_chunks 35 (length track / 35) track
    → block < 16 → k ≡ block → fault ≡ block_fault area block (get_or blocks k []) → fault ≡ fault_of area track block
met area track blocks block k fault long front less is e =
    e ∙ ap (block_fault area block) (rw front (block_read track block k long less is))

pub loop-number-preserved : goal.loop-number-preserved
loop-number-preserved c =
    let less = c.loop-number-test.true in
    judged_on (fault_of _ _) _ _ less (met _ c.args.track.now _ _ _ _ (search rules) c.as_chunks.ensures.front less c.from.ensures c.judge_block.ensures) c.loop-number.invariant (search rules)

pub returns-in_err-map_err : goal.returns-in_err-map_err
returns-in_err-map_err c =
    let less = c.loop-number-test.true in
    let e : answer_of c.from_residual.result ≡ Refused (number_of track_number c.judge_block.result) c.loop-number.number-counter = search rules in
    let n : eqb (number_of track_number c.judge_block.result) 0 ≡ false = search (rules, track_not_zero) in
    e ∙ judged_fault (fault_of _ _) _ _ less (met _ c.args.track.now _ _ _ _ (search rules) c.as_chunks.ensures.front less c.from.ensures c.judge_block.ensures) c.loop-number.invariant n
    ∙ read_blocks _ _ _ _ _ (record { track = search rules; packs = refl; items = refl; numbers = refl })

pub returns : goal.returns
returns c =
    judged_all (fault_of _ _) c.loop-number.number-counter (search rules) c.loop-number.invariant ∙ read_blocks _ _ _ _ _ (record { track = search rules; packs = refl; items = refl; numbers = refl })
