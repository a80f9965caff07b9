-- What is accepted is a lawful layout of what its rows and bytes give.
-- Assumes nothing.
use Prim.Native.Nat.{ℕ, zero, suc, ◌+◌, ◌*◌, ◌-◌, ◌≤◌}
use native.Mathlib.Omega.{arith}
use native.Mathlib.Nat.{zero-add}
use mathlib.Core.List.{List, [], ◌∷◌, ◌++◌, map, append_assoc}
use mathlib.Core.Bool.{true}
use mathlib.Core.Path.{◌≡◌, refl, sym, ap, ◌∙◌, subst}
use lib.ListN.{length, take, drop, take-append-drop, length-drop}
use lib.Seq.{take-take}
use Rattle.group.specs.declared.Phase.{Phase}
use Rattle.group.specs.declared.Phase.TheVariants as phase
use Rattle.group.specs.Sizes.{information_length, last_number, entry_offset, size_kept, number_kept}
use Rattle.numbers.specs.Numbers.{Bytes}
use Rattle.group.specs.Entries.{entry_at, entries_below, table_bytes}
use Rattle.numbers.proofs.Tests.{within}
use Rattle.group.proofs.EntryLaws.{small_entries, table_of_entries}
use Rattle.group.proofs.EntryLaws as entries
use Rattle.reader.specs.declared.Reader.{Reader}
use Rattle.entry.specs.declared.Stand.{Stand}
use Rattle.entry.specs.declared.Stand.TheVariants.{Free}
use Rattle.entry.specs.declared.Cursor.{Cursor}
use Rattle.reader.specs.ReadAnswer as answer
use Rattle.entry.specs.Rules.{stand_at, b4_kept}
use Rattle.reader.specs.Answer.{fresh, opening, closing, group_scan, read_call}
use Rattle.reader.proofs.Accepted.{Ready, Passed, accepted}
use Rattle.layout.specs.Items.{Piece, Token, Each, grouped, tokens}
use Rattle.layout.specs.Items.Each.{each_more}
use Rattle.layout.specs.Items.Token.{piece, group_end}
use Rattle.layout.specs.Layout.{Image, Pictures, Run, Lays, user_data, b4_after, entries_of}
use Rattle.layout.specs.Layout.Run.{run_none, run_more}
use Rattle.layout.specs.Accepting.{Accepts}
use Rattle.layout.specs.Accepting.Accepts.{accepts_none, accepts_more}
use Rattle.layout.specs.Reading.{OfBytes, items_after, begun_after, items_read, begun_read}
use Rattle.layout.proofs.Grammar.{Walk, Between, Found, walk_found}
use Rattle.layout.proofs.Grammar.Walk.{stop}
use Rattle.layout.proofs.Grammar.Between.{b_free, b_inside, b_owed}
use Rattle.layout.proofs.Assembled.{pieces_in, flat, in_grouped, items_of_tokens, begun_of_tokens}
use Rattle.layout.proofs.Decode.{length_entries}
use Rattle.layout.proofs.OnlyOne.{pieces_read}
use Rattle.layout.proofs.Unscanned.{Pictured, none_plain, unscan}

-- A group in four parts, from its table and its data.
four_parts : (g u t : List ℕ) (top limit : ℕ) → take top g ≡ take limit g ++ t → u ≡ take (length u) g → length u ≤ limit →
    g ≡ u ++ (drop (length u) (take limit g) ++ (t ++ drop top g))
four_parts g u t top limit e s h =
    let a : take limit g ≡ u ++ drop (length u) (take limit g) =
    sym (take-append-drop (length u) (take limit g)) ∙ ap (λ (r : List ℕ). r ++ drop (length u) (take limit g)) (take-take (length u) limit g h ∙ sym s) in
    sym (take-append-drop top g) ∙ ap (λ (r : List ℕ). r ++ drop top g) (e ∙ ap (λ (r : List ℕ). r ++ t) a) ∙ simp append_assoc

-- The bytes of a group whose entries are those of pieces picture the pieces.
pictures : (size plain : ℕ) (g : Image) (ps : List Piece) (n : ℕ) → g.entries ≡ n → length g.bytes ≡ size → 32 + 4 * n ≤ size → Bytes g.bytes →
    entries_of plain (size - length (user_data ps)) ps ≡ entries_below g.bytes (size - information_length) n → length (user_data ps) ≤ entry_offset size n →
    user_data ps ≡ take (length (user_data ps)) g.bytes → Pictures size plain ps g
pictures size plain g ps n c f h b e l s =
    record {
      gap = drop (length (user_data ps)) (take (size - 32 - 4 * n) g.bytes);
      information = drop (size - 32) g.bytes;
      thirty_two = simp length-drop (omega arith);
      counted = omega (arith, ap length e, length_entries plain (size - length (user_data ps)) ps, entries.length_entries g.bytes (size - 32) n);
      filled = f;
      stands =
          rw e (four_parts g.bytes (user_data ps) (table_bytes (entries_below g.bytes (size - 32) n)) (size - 32) (size - 32 - 4 * n)
          (table_of_entries g.bytes (size - 32) n b (omega arith) (omega arith)) s l);
    }

-- One group that is read.
record GroupRead (s : Reader) (g : Image) (t : Reader) (left : ℕ) : Type 0 where
  pub pieces : List Piece
  pub plain : ℕ
  pub pictured : Pictures s.size plain pieces g
  pub warns : b4_kept s.warned (b4_after plain) ≡ true
  pub past : plain - g.entries ≡ left
  pub numbered : g.number ≡ s.next
  pub bounded : s.next ≤ last_number
  pub sizes : s.size ≡ t.size
  pub nexts : suc s.next ≡ t.next
  pub walks : (to : Stand) (n : ℕ) (rest : List Token) → Walk s.size to n (stand_at t.phase) t.sum 0 rest → Walk s.size to n (stand_at s.phase) s.sum 0 (map piece pieces ++ (group_end ∷ rest))

module _ (s : Reader) (g : Image) (t : Reader) (left m room : ℕ) (w : b4_kept t.warned (b4_after left) ≡ true) (e : g.entries ≡ suc m) (b : Bytes g.bytes) (r : Ready s (length g.bytes) g.number g.entries room) where
  group_of_lem : (c : Cursor) → t ≡ closing s c → Pictured s.size (entry_offset s.size (suc m)) left g.bytes (entries_below g.bytes (s.size - information_length) (suc m)) (opening s) c → GroupRead s g t left
  group_of_lem c k q =
      let shown = pictures s.size q.plain g q.pieces (suc m) e r.long (omega (arith, r.fits)) b (rw zero-add at q.same) (rw zero-add at q.fits) q.shows in
      record {
        pieces = q.pieces;
        plain = q.plain;
        warns = q.warns;
        past = ap (λ (n : ℕ). q.plain - n) shown.counted ∙ q.past;
        pictured = shown;
        numbered = r.next;
        bounded = omega (arith, r.next, r.numbered);
        sizes = ap (λ (x : Reader). x.size) (sym k);
        nexts = omega (arith, ap (λ (x : Reader). x.next) k);
        walks = λ to n rest w. q.walks to n rest (subst (λ (x : Reader). Walk s.size to n (stand_at x.phase) x.sum 0 rest) k w);
      }

  group_from : Passed s t g.bytes g.number g.entries room → GroupRead s g t left
  unfolding group_scan entries_below
  group_from k =
      group_of_lem k.end k.left
      (unscan s.size (entry_offset s.size (suc m)) left g.bytes (entry_at g.bytes (s.size - 32 - 4)) (entries_below g.bytes (s.size - 32 - 4) m) 1 (opening s) k.end
      (omega (arith, r.long)) (omega arith) (small_entries g.bytes (s.size - 32) (suc m) b) (subst (λ (x : Reader). b4_kept x.warned (b4_after left) ≡ true) k.left w) (rw e at k.reached))

group_read : (s : Reader) (g : Image) (t : Reader) (left room : ℕ) → b4_kept t.warned (b4_after left) ≡ true → Bytes g.bytes → read_call s g.bytes g.number g.entries room ≡ answer.Accepted t → GroupRead s g t left
group_read s g t left room w b h = by g.entries refl (accepted s t g.bytes g.number g.entries room h)
  where
    by : (n : ℕ) → g.entries ≡ n → Passed s t g.bytes g.number g.entries room → GroupRead s g t left
    by zero e p = absurd (omega (arith, p.ready.some))
    by (suc m) e p = group_from s g t left m room w e b p.ready p

-- A run that is read.
pub record RunRead (s : Reader) (run : List Image) (t : Reader) : Type 0 where
  pub groups : List (List Piece)
  pub plain : ℕ
  pub warns : b4_kept s.warned (b4_after plain) ≡ true
  pub images : Run s.size plain s.next groups run
  pub walks : Walk s.size (stand_at t.phase) t.sum (stand_at s.phase) s.sum 0 (grouped groups)

pub run_read : {s t : Reader} {run : List Image} {rows : List (List ℕ)} → Each OfBytes run → Accepts s run rows t → RunRead s run t
unfolding grouped
run_read {s} b accepts_none = record { groups = []; plain = 0; warns = none_plain s.warned; images = run_none; walks = stop }
run_read (each_more b bs) (accepts_more {s} {t} {u} {g} {gs} old h a) =
    let rest = run_read bs a in
    let r = group_read s g t rest.plain (length old) rest.warns b h in
    let later : Run s.size (r.plain - g.entries) (suc s.next) rest.groups gs = rw (r.past, r.sizes, r.nexts) rest.images in
    record {
      groups = r.pieces ∷ rest.groups;
      plain = r.plain;
      warns = r.warns;
      images = run_more r.bounded r.numbered r.pictured later;
      walks = r.walks (stand_at u.phase) u.sum (grouped rest.groups) (rw r.sizes rest.walks);
    }

between_groups : (f : Phase) → Between (stand_at f)
between_groups phase.Free = b_free
between_groups phase.Inside = b_inside
between_groups phase.Owed = b_owed

-- A run of groups whose pieces walk lays out what its pieces finish and leave open.
pub lays_run : {size plain first n : ℕ} {groups : List (List Piece)} {run : List Image} → size_kept size ≡ true → number_kept first ≡ true → (f : Phase) → Run size plain first groups run →
    Walk size (stand_at f) n Free 0 0 (grouped groups) → Lays size first (items_after [] (flat groups)) (begun_after [] (flat groups)) run
lays_run {size} {plain} {groups} h k f r w =
    let found : Found size (grouped groups) = walk_found size (between_groups f) w in
    let e : flat groups ≡ pieces_in (tokens found.laid found.tail) = sym (in_grouped groups) ∙ ap pieces_in (sym found.shows) in
    record {
      sized = h;
      numbered = k;
      laid = found.laid;
      tail = found.tail;
      groups = groups;
      plain = plain;
      sound = found.sound;
      sound_tail = found.sound_tail;
      finishes = rw e (sym (items_of_tokens found.laid found.tail));
      breaks = rw e (sym (begun_of_tokens found.laid found.tail));
      groups_of = found.shows;
      images = r;
    }

pub lawful_from : {size first : ℕ} {run : List Image} {rows : List (List ℕ)} {final : Reader} → size_kept size ≡ true → number_kept first ≡ true → Each OfBytes run →
    Accepts (fresh size first) run rows final → Lays size first (items_read run rows) (begun_read run rows) run
lawful_from {size} {first} {run} {rows} {final} h k b a =
    let (least, most) = within 64 size 126632 h in
    let r : RunRead (fresh size first) run final = run_read b a in
    rw (pieces_read {size = size} (omega arith) refl r.images r.walks a) (lays_run h k final.phase r.images r.walks)
