-- What the two calls on a track leave, once the answer slice is of its length: what the track's own call answers and leaves.
-- Assumes nothing.
use mathlib.Core.Path.{◌≡◌}
use mathlib.Core.Bool.{true}
use mathlib.Core.List.{List, [], ◌∷◌}
use Prim.Native.Nat.{ℕ}
use Rattle.answer.specs.Answer.{Told}
use Rattle.track.specs.Answer.{TrackAnswer, told, Makes, Reads}
use Rattle.slices.specs.Call.{left, answer_kept, Tells}
use Rattle.slices.proofs.Calls.{answered, none_lent, more_lent}
use Rattle.c_track.specs.Calls.{dds_subdata_make, dds_subdata_read}

pub made : (area frame : ℕ) (packs items track numbers answer : List ℕ) {a : TrackAnswer} {track' numbers' answer' : List ℕ} {t : Told} {refusal : ℕ}
    → answer_kept answer ≡ true → Makes area frame packs items track numbers a track' numbers' → t ≡ told a → Tells t refusal answer'
    → left refusal (track' ∷ numbers' ∷ []) answer' ≡ dds_subdata_make area frame packs items track numbers answer
unfolding dds_subdata_make
made area frame packs items track numbers answer {a} kept m e t =
    answered told _ _ answer kept m.answer e (more_lent (told a) _ _ _ _ m.track_left (more_lent (told a) _ _ _ _ m.numbers_left (none_lent (told a)))) t

pub read : (area frame : ℕ) (track packs items numbers answer : List ℕ) {a : TrackAnswer} {packs' items' numbers' answer' : List ℕ} {t : Told} {refusal : ℕ}
    → answer_kept answer ≡ true → Reads area frame track packs items numbers a packs' items' numbers' → t ≡ told a → Tells t refusal answer'
    → left refusal (packs' ∷ items' ∷ numbers' ∷ []) answer' ≡ dds_subdata_read area frame track packs items numbers answer
unfolding dds_subdata_read
read area frame track packs items numbers answer {a} kept r e t =
    answered told _ _ answer kept r.answer e (more_lent (told a) _ _ _ _ r.packs_left (more_lent (told a) _ _ _ _ r.items_left (more_lent (told a) _ _ _ _ r.numbers_left (none_lent (told a))))) t
