-- What the writer closed so far is a lawful layout of the account at the last close, is accepted, and is read back as just that.
-- Assumes nothing.
use Prim.Native.Nat.{ℕ, ◌+◌, ◌≤◌}
use native.Mathlib.Omega.{arith}
use mathlib.Core.List.{List, [], ◌∷◌, ◌++◌, map, append-nil, append_assoc}
use mathlib.Core.Bool.{false}
use mathlib.Core.Path.{◌≡◌, refl, sym, ap, ◌∙◌, subst}
use lib.ListN.{length, take-append-drop}
use Rattle.laying.proofs.Starts.{begun_at}
use Rattle.laying.specs.Start.{fresh_state, writer_start_call}
use Rattle.group.specs.declared.Phase.{Phase}
use Rattle.group.specs.declared.Phase.TheVariants as phase
use Rattle.group.specs.Sizes.{least_size, standard_size, information_length}
use Rattle.group.specs.State.{start_refusal}
use Rattle.numbers.proofs.Tests.{within}
use Rattle.group.proofs.StateLaws.{started}
use Rattle.entry.specs.declared.Stand.TheVariants as stand
use Rattle.entry.specs.Rules.{stand_at}
use Rattle.reader.specs.Answer.{fresh}
use Rattle.laying.specs.declared.Writer.{Writer}
use Rattle.laying.specs.WriterStart as start
use Rattle.writer.specs.WriteAnswer.{WriteAnswer}
use Rattle.writer.specs.WriteAnswer.{Finished, Closed}
use Rattle.laying.specs.Laying.{Desk, desk}
use Rattle.writer.specs.Calls.{Call, call}
use Rattle.layout.specs.Items.{Piece, grouped}
use Rattle.layout.specs.Items.Token.{piece}
use Rattle.layout.specs.Layout.{Image, Run, Lays}
use Rattle.layout.specs.Layout.Run.{run_none}
use Rattle.layout.specs.Accepting.{Lent}
use Rattle.layout.specs.Reading.{items_after, begun_after}
use Rattle.layout.specs.Writing.{Account, blank, after_record, noted, AsAsked, with_information, image_of, Wrote}
use Rattle.layout.specs.Writing.Wrote.{begins, goes_on, closes, refused, changed}
use Rattle.layout.specs.WritingStated.{GivesBack}
use Rattle.layout.proofs.Assembled.{flat}
use Rattle.layout.proofs.Grammar.{Walk}
use Rattle.layout.proofs.Grammar.Walk.{stop}
use Rattle.layout.proofs.Complete.{begins_at_lem, complete_to}
use Rattle.layout.proofs.OnlyOne.{reading_is}
use Rattle.layout.proofs.Ending.{ends_with}
use Rattle.layout.proofs.Sound.{lays_run}
use Rattle.layout.proofs.Buffer.{buffered_fresh, buffered_changed}
use Rattle.layout.proofs.Held.{closed_run}
use Rattle.layout.proofs.Held.Begins.{not_yet}
use Rattle.layout.proofs.Accounts.{Hand, Kept, Said, after_call, as_given, as_came}

-- A writing was started.
pub wrote_started : {size first : ℕ} {w : Desk} {run : List Image} {closed now : Account} → Wrote size first w run closed now → start_refusal size first ≡ 0
wrote_started {size} {first} (begins {s} e l) = (begun_at size first s e).0
wrote_started (goes_on c x q e) = wrote_started x
wrote_started (closes c information g x q e i j) = wrote_started x
wrote_started (refused c lent x e) = wrote_started x
wrote_started (changed information x i) = wrote_started x

-- What is kept at each step of a writing.
module _ {size first : ℕ} {run : List Image} {note : WriteAnswer → Account} where
  kept_finished : {s : Writer} {g : List ℕ} → Said size first run note (Finished s) g → Kept size first (desk s g) run (note (Finished s))
  kept_finished (Said.finishes k) = k

  kept_closed : {s : Writer} {number entries taken : ℕ} {g : List ℕ} → Said size first run note (Closed s number entries taken) g →
      (information h : List ℕ) → length information ≡ information_length → length h ≡ size →
      Kept size first (desk s h) (run ++ (image_of number entries g information ∷ [])) (note (Closed s number entries taken))
  kept_closed (Said.closes e k) = k

  emptied : {s : Writer} {number entries taken : ℕ} {g : List ℕ} → Said size first run note (Closed s number entries taken) g → s.entries ≡ 0
  emptied (Said.closes e k) = e

kept_changed : {size first : ℕ} {w : Desk} {run : List Image} {a : Account} (information : List ℕ) → length information ≡ information_length → Kept size first w run a →
    Kept size first (desk w.state (with_information w.group information)) run a
kept_changed information i k =
    let h = k.holds in
    record {
      sized = k.sized;
      holds =
          record {
            groups = h.groups;
            pieces = h.pieces;
            numbered = h.numbered;
            walks = h.walks;
            finishes = h.finishes;
            breaks = h.breaks;
            before = h.before;
            begins = h.begins;
            stands = buffered_changed information i h.stands;
          };
      hand = k.hand;
    }

answered : {size first : ℕ} {w : Desk} {run : List Image} {a : Account} {o : WriteAnswer} (c : Call) → Kept size first w run a → AsAsked c w.state.phase a → (call c w).answer ≡ o →
    Said size first run (λ x. noted c w.state.phase x a) o (call c w).group
answered {size} {first} {w} {run} {a} c k q e =
    subst (λ (o : WriteAnswer). Said size first run (λ x. noted c w.state.phase x a) o (call c w).group) e
    (subst (λ (n : ℕ). Said n first run (λ x. noted c w.state.phase x a) (call c w).answer (call c w).group) k.sized
    (after_call a c w q (record { sized = refl; holds = k.holds; hand = k.hand })))

kept_fresh : {size first : ℕ} {g : List ℕ} → least_size ≤ size → length g ≡ size → Kept size first (desk (fresh_state size first) g) [] blank
unfolding blank grouped flat items_after begun_after
kept_fresh {size} {first} h e =
    let n : first ≡ first + 0 = omega arith in
    let l : information_length ≤ size = omega arith in
    record {
      sized = refl;
      holds = record { groups = []; pieces = []; numbered = n; walks = stop; finishes = refl; breaks = refl; before = false; begins = not_yet (λ more. run_none); stands = buffered_fresh false l e };
      hand = refl;
    }

kept_start : {size first : ℕ} {s : Writer} {g : List ℕ} → writer_start_call size first ≡ start.Started s → length g ≡ size → Kept size first (desk s g) [] blank
kept_start {size} {first} {s} {g} e l =
    let (none, same) = begun_at size first s e in
    let (least, most) = within least_size size standard_size (started size first none).0 in
    subst (λ (t : Writer). Kept size first (desk t g) [] blank) (sym same) (kept_fresh least l)

kept : {size first : ℕ} {w : Desk} {run : List Image} {closed now : Account} → Wrote size first w run closed now → Kept size first w run now
kept (begins e l) = kept_start e l
kept (goes_on c x q e) = kept_finished (answered c (kept x) q e)
kept (closes c information g x q e i j) = kept_closed (answered c (kept x) q e) information g i j
kept {size} {first} {run = run} {now = now} (refused {w} {s} {refusal} c lent x e) =
    subst (λ (t : Writer). Kept size first (desk t w.group) run now) (as_came (desk w.state lent) _ _ s refusal (as_given c (desk w.state lent)) e) (kept x)
kept (changed information x i) = kept_changed information i (kept x)

-- At the last close, or at the start: the groups of the run, the phase that they leave, and the account.
pub record AtClose (size first : ℕ) (run : List Image) (a : Account) : Type 0 where
  pub groups : List (List Piece)
  pub plain : ℕ
  pub images : Run size plain first groups run
  pub phase : Phase
  pub sum : ℕ
  pub walks : Walk size (stand_at phase) sum stand.Free 0 0 (grouped groups)
  pub finishes : items_after [] (flat groups) ≡ a.finished
  pub breaks : begun_after [] (flat groups) ≡ a.begun
  pub hand : Hand phase a

none_left : (ps : List Piece) → length ps ≡ 0 → ps ≡ []
none_left [] e = refl
none_left (p ∷ ps) e = absurd (omega arith)

-- Where the open group holds no entry.
whole : {size first : ℕ} {w : Desk} {run : List Image} {a : Account} → Kept size first w run a → w.state.entries ≡ 0 → AtClose size first run a
whole {size} {first} {w} {run} {a} k e =
    let h = k.holds in
    let n : h.pieces ≡ [] = none_left h.pieces (sym h.stands.counted ∙ e) in
    let j : grouped h.groups ++ map piece h.pieces ≡ grouped h.groups = rw (n, append-nil) in
    let f : flat h.groups ++ h.pieces ≡ flat h.groups = rw (n, append-nil) in
    let c = closed_run h.begins in
    record {
      groups = h.groups;
      plain = c.plain;
      images = subst (λ (s : ℕ). Run s c.plain first h.groups run) k.sized c.images;
      phase = w.state.phase;
      sum = w.state.sum;
      walks = subst (λ (s : ℕ). Walk s (stand_at w.state.phase) w.state.sum stand.Free 0 0 (grouped h.groups)) k.sized (rw j at h.walks);
      finishes = rw f at h.finishes;
      breaks = rw f at h.breaks;
      hand = k.hand;
    }

started_empty : (size first : ℕ) {s : Writer} → writer_start_call size first ≡ start.Started s → s.entries ≡ 0
started_empty size first {s} e = ap (λ (t : Writer). t.entries) (begun_at size first s e).1

pub at_close : {size first : ℕ} {w : Desk} {run : List Image} {closed now : Account} → Wrote size first w run closed now → AtClose size first run closed
at_close {size} {first} (begins {g} e l) = whole (kept_start {g = g} e l) (started_empty size first e)
at_close (goes_on c x q e) = at_close x
at_close (closes c information g x q e i j) = whole (kept (closes c information g x q e i j)) (emptied (answered c (kept x) q e))
at_close (refused c lent x e) = at_close x
at_close (changed information x i) = at_close x

-- What the writer closed so far is a lawful layout of the account at the last close.
pub closed_lays : {size first : ℕ} {w : Desk} {run : List Image} {closed now : Account} → Wrote size first w run closed now → Lays size first closed.finished closed.begun run
closed_lays {size} {first} x =
    let (size_kept_lem, number-kept) = started size first (wrote_started x) in
    let c = at_close x in
    rw (c.finishes, c.breaks) at (lays_run size_kept_lem number-kept c.phase c.images c.walks)

-- Where the phase is free, nothing is left half-written.
pub none_begun : {size first : ℕ} {w : Desk} {run : List Image} {closed now : Account} → Wrote size first w run closed now → w.state.phase ≡ phase.Free → now.begun ≡ []
none_begun {now} x e = subst (λ (p : Phase). Hand p now) e (kept x).hand

-- What the writer closed so far is accepted, with any row buffers long enough, and its reading is the account at the last close.
pub gives_back : {size first : ℕ} {w : Desk} {run : List Image} {closed now : Account} {lent : List (List ℕ)} → Wrote size first w run closed now → Lent run lent → GivesBack size first run lent closed
gives_back {size} {first} x lent =
    let (size_kept_lem, number-kept) = started size first (wrote_started x) in
    let l = closed_lays x in
    let a = complete_to l lent in
    let (items, begun) = reading_is l a.accepts in
    record {
      reader = fresh size first;
      starts = begins_at_lem size first size_kept_lem number-kept;
      accepted = record { rows = a.rows; final = a.final; accepts = a.accepts; buffers = a.buffers; ends = ends_with l a.accepts };
      items = items;
      begun = begun;
    }

-- "The caller offers it again", "The caller offers exactly the rest": a close moves bytes from those asked for to those begun, and
-- the record in hand stays the one that was first offered.
pub same_record : (s : Writer) (number entries taken : ℕ) (a : Account)
    → (after_record (Closed s number entries taken) a).begun ++ (after_record (Closed s number entries taken) a).asked ≡ a.begun ++ a.asked
unfolding after_record
same_record s number entries taken a = rw (append_assoc, take-append-drop)
