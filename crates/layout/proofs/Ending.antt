-- The state that a run leaves its reader in, whatever row buffers it was read with: by any lawful layout of the run.
-- Assumes nothing.
use Prim.Native.Nat.{ℕ}
use native.Mathlib.Omega.{arith}
use mathlib.Core.List.{List, ◌∷◌}
use mathlib.Core.Bool.{Bool, true}
use mathlib.Core.Path.{◌≡◌, refl, sym, ap, ◌∙◌}
use lib.Dec.{leb}
use lib.ListN.{length}
use borrow.Author.Tests.{le-leb}
use Rattle.group.specs.declared.Phase.{Phase}
use Rattle.group.specs.declared.Phase.TheVariants as phase
use Rattle.group.specs.Sizes.{entry_offset}
use Rattle.group.specs.Flags.{b4_of}
use Rattle.group.specs.Entries.{entry_at}
use Rattle.entry.specs.Rules.{stand_at}
use Rattle.reader.specs.declared.Reader.{Reader}
use Rattle.reader.specs.Answer.{fresh}
use Rattle.reader.proofs.Accepted.{accepted}
use Rattle.reader.proofs.Warned.{left_by_skip}
use Rattle.layout.specs.Items.{Item, Piece, Tail}
use Rattle.layout.specs.Items.Tail.{none_open, broken_inside, broken_owed}
use Rattle.layout.specs.Layout.{Image, Lays}
use Rattle.layout.specs.Accepting.{Accepts}
use Rattle.layout.specs.Accepting.Accepts.{accepts_none, accepts_more}
use Rattle.layout.specs.Reading.{phase_after}
use Rattle.layout.specs.Stated.{EndsWith, b4_left}
use Rattle.layout.proofs.Grammar.{tail_stand}
use Rattle.layout.proofs.Assembled.{phase_of_tail, phase_of_tokens}
use Rattle.layout.proofs.Complete.{complete_to, tail_sum_lem, tail_free}
use Rattle.layout.proofs.OnlyOne.{pieces_laid, enough}
use Rattle.layout.proofs.Order.{same_state, next_after, size_after}

tail_phase : (f : Phase) (t : Tail) → stand_at f ≡ tail_stand t → f ≡ phase_of_tail t
unfolding tail_stand
tail_phase phase.Free none_open e = refl
tail_phase phase.Free (broken_inside p ps) e = let z : ◌≡◌ {A = ℕ} 0 1 = cc in absurd (omega arith)
tail_phase phase.Free (broken_owed p ps q) e = let z : ◌≡◌ {A = ℕ} 0 1 = cc in absurd (omega arith)
tail_phase phase.Inside none_open e = let z : ◌≡◌ {A = ℕ} 0 1 = cc in absurd (omega arith)
tail_phase phase.Inside (broken_inside p ps) e = refl
tail_phase phase.Inside (broken_owed p ps q) e = let z : ◌≡◌ {A = ℕ} 0 1 = cc in absurd (omega arith)
tail_phase phase.Owed none_open e = let z : ◌≡◌ {A = ℕ} 0 1 = cc in absurd (omega arith)
tail_phase phase.Owed (broken_inside p ps) e = let z : ◌≡◌ {A = ℕ} 0 1 = cc in absurd (omega arith)
tail_phase phase.Owed (broken_owed p ps q) e = refl

-- Each group leaves b4 as its skip has it.
b4_after_lem : {size : ℕ} {s t : Reader} {run : List Image} {rows : List (List ℕ)} → s.size ≡ size → Accepts s run rows t → t.warned ≡ b4_left size s.warned run
unfolding b4_left
b4_after_lem z accepts_none = refl
b4_after_lem {size} z (accepts_more {s} {t} {g} {gs} old e a) =
    let same : t.size ≡ size = ap (λ (r : Reader). r.size) (accepted s t g.bytes g.number g.entries (length old) e).left ∙ z in
    b4_after_lem same a
    ∙ ap (λ (b : Bool). b4_left size b gs) (left_by_skip s t g.bytes g.number g.entries (length old) e)
    ∙ ap (λ (n : ℕ). b4_left size (b4_of (entry_at g.bytes (entry_offset n g.entries)).flag) gs) z

-- .. and says that a group was accepted.
says_on : {s t : Reader} {run : List Image} {rows : List (List ℕ)} → s.accepted ≡ true → Accepts s run rows t → t.accepted ≡ true
says_on h accepts_none = h
says_on h (accepts_more {s} {t} {g} old e a) =
    says_on (ap (λ (r : Reader). r.accepted) (accepted s t g.bytes g.number g.entries (length old) e).left) a

says_after : {size first : ℕ} {final : Reader} {run : List Image} {rows : List (List ℕ)} → Accepts (fresh size first) run rows final → final.accepted ≡ leb 1 (length run)
says_after accepts_none = refl
says_after (accepts_more {s} {t} {g} {gs} old e a) =
    says_on (ap (λ (r : Reader). r.accepted) (accepted s t g.bytes g.number g.entries (length old) e).left) a
    ∙ sym (le-leb 1 (length (g ∷ gs)) (omega arith))

pub ends_with : {size first : ℕ} {i : List Item} {b : List ℕ} {run : List Image} {rows : List (List ℕ)} {final : Reader} →
    Lays size first i b run → Accepts (fresh size first) run rows final → EndsWith size first run rows b final
ends_with {run} {final} l a =
    let c = complete_to l (enough run) in
    let same : c.final ≡ final = same_state c.accepts a in
    let stand : stand_at final.phase ≡ tail_stand l.tail = ap (λ (r : Reader). stand_at r.phase) (sym same) ∙ c.stand in
    record {
      sized = size_after a;
      next = next_after a;
      stands = tail_phase final.phase l.tail stand ∙ sym (phase_of_tokens l.laid l.tail) ∙ ap (λ (ps : List Piece). phase_after phase.Free ps) (sym (pieces_laid l a));
      free = rw l.breaks at (tail_free final.phase l.tail l.sound_tail stand);
      sum = ap (λ (r : Reader). r.sum) (sym same) ∙ c.sum ∙ tail_sum_lem l.tail ∙ ap length l.breaks;
      b4 = b4_after_lem refl a;
      accepted = says_after a;
    }
