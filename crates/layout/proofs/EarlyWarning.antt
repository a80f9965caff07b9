-- b4 of the entries of an accepted run: no entry drops it, from the first group to the last.
-- Assumes nothing.
use Prim.Native.Nat.{ℕ, suc, ◌-◌}
use mathlib.Core.List.{List, ◌∷◌, ◌++◌, map}
use mathlib.Core.Bool.{Bool, true, false}
use mathlib.Core.Path.{◌≡◌, refl, ap, ◌∙◌, subst}
use lib.ListN.{length, replicate}
use Rattle.group.specs.declared.Entry.{Entry}
use Rattle.group.specs.Sizes.{information_length}
use Rattle.group.specs.Flags.{b4_of}
use Rattle.group.specs.Entries.{entries_below}
use Rattle.reader.specs.declared.Reader.{Reader}
use Rattle.reader.proofs.Warned.{Keeps, read_keeps}
use Rattle.reader.proofs.Warned.Keeps.{none, one}
use Rattle.layout.specs.Layout.{Image}
use Rattle.layout.specs.Accepting.{Accepts}
use Rattle.layout.specs.Accepting.Accepts.{accepts_none, accepts_more}
use Rattle.layout.specs.EarlyWarning.{entries_of_run, SetOnce, BeginsOnce}
use Rattle.layout.proofs.OnlyOne.{size_kept_lem}

keeps_on : {before between left : Bool} {es fs : List Entry} → Keeps before es between → Keeps between fs left → Keeps before (es ++ fs) left
keeps_on none k = k
keeps_on (one h j) k = one h (keeps_on j k)

run_keeps : {s t : Reader} {run : List Image} {rows : List (List ℕ)} {size : ℕ} → s.size ≡ size → Accepts s run rows t → Keeps s.warned (entries_of_run size run) t.warned
unfolding entries_of_run
run_keeps e accepts_none = none
run_keeps {size = size} e (accepts_more {s} {t} {g = g} old x a) =
    keeps_on
    (subst (λ (k : ℕ). Keeps s.warned (entries_below g.bytes (k - information_length) g.entries) t.warned) e (read_keeps s t g.bytes g.number g.entries (length old) x))
    (run_keeps (size_kept_lem s t g.bytes g.number g.entries (length old) x ∙ e) a)

abbrev b4s : List Entry → List Bool
b4s es = map (λ (e : Entry). b4_of e.flag) es

-- Set once, it is set in all that follow.
all_set : {before left : Bool} {es : List Entry} → Keeps before es left → before ≡ true → b4s es ≡ replicate (length es) true
all_set none h = refl
all_set (one {e = e} {es = es} k ks) h =
    let f : b4_of e.flag ≡ true = rw h at k in
    rw f (ap {B = List Bool} (λ bs. true ∷ bs) (all_set ks f))

once : {before left : Bool} {es : List Entry} → Keeps before es left → SetOnce (b4s es)
once none = record { clear = 0; set = 0; all = refl }
once (one {e = e} {es = es} k ks) = by (b4_of e.flag) refl (once ks)
  where
    by : (b : Bool) → b4_of e.flag ≡ b → SetOnce (b4s es) → SetOnce (b4_of e.flag ∷ b4s es)
    by true f o = record { clear = 0; set = suc (length es); all = rw f (ap {B = List Bool} (λ bs. true ∷ bs) (all_set ks f)) }
    by false f o = record { clear = suc o.clear; set = o.set; all = rw f (ap {B = List Bool} (λ bs. false ∷ bs) o.all) }

pub begins_once : {s t : Reader} {run : List Image} {rows : List (List ℕ)} {size : ℕ} → s.size ≡ size → Accepts s run rows t → BeginsOnce size run
begins_once e a = once (run_keeps e a)
