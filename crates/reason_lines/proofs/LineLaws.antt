-- Laws of the permitted kinds' names: of none, and of one more.
-- Assumes nothing.
use borrow.Author.Tests.{ne_eqb}
use Rattle.std.proofs.Common.{ℕ, zero, suc, ◌+◌, ◌<◌, ◌≡◌, refl, cond, List, [], ◌∷◌, ◌++◌, take, ap, sym, ◌∙◌, append_assoc, append-nil, arith}
use Rattle.group.specs.declared.Kind.{Kind}
use Rattle.group.specs.declared.Kind.TheVariants.{Total, Separator, Middle, Start, Last, Entire, Skip}
use Rattle.group.specs.Flags.{kind_number, kinds}
use Rattle.words.specs.Words.{ascii, kind_name}
use Rattle.reasons.specs.declared.Reason.{Reason}
use Rattle.reasons.specs.Truth.{is_permitted}
use Rattle.reason_lines.specs.Lines.{names_among, permitted_names}

-- What is added of one kind.
abbrev pub name_of : Reason → (kind : ℕ) → List ℕ
name_of r kind = cond (is_permitted r kind) (ascii " " ++ kind_name kind) []

-- The names of the first n kinds.
unfoldable pub names_of : (n : ℕ) → Reason → List ℕ
names_of n r = names_among (take n kinds) r

names_after : (ks : List Kind) (k : Kind) (r : Reason) → names_among (ks ++ (k ∷ [])) r ≡ names_among ks r ++ name_of r (kind_number k)
names_after [] k r = append-nil _
names_after (j ∷ ks) k r = ap (λ (l : List ℕ). name_of r (kind_number j) ++ l) (names_after ks k r) ∙ sym (append_assoc (name_of r (kind_number j)) (names_among ks r) (name_of r (kind_number k)))

pub no_names : (r : Reason) → names_of 0 r ≡ []
unfolding names_of
no_names r = refl

pub one_name_more : (n : ℕ) (r : Reason) → n < 7 → names_of (n + 1) r ≡ names_of n r ++ name_of r (n + 1)
unfolding names_of
one_name_more zero r h = names_after (take 0 kinds) Total r
one_name_more (suc zero) r h = names_after (take 1 kinds) Separator r
one_name_more (suc (suc zero)) r h = names_after (take 2 kinds) Middle r
one_name_more (suc (suc (suc zero))) r h = names_after (take 3 kinds) Start r
one_name_more (suc (suc (suc (suc zero)))) r h = names_after (take 4 kinds) Last r
one_name_more (suc (suc (suc (suc (suc zero))))) r h = names_after (take 5 kinds) Entire r
one_name_more (suc (suc (suc (suc (suc (suc zero)))))) r h = names_after (take 6 kinds) Skip r
one_name_more (suc (suc (suc (suc (suc (suc (suc n))))))) r h = absurd (omega (arith, h))

-- Where any kind is permitted, the names are those of all seven.
pub all_names : (n : ℕ) (r : Reason) → n ≡ 7 → (r.kinds ≡ 0 → ⊥) → names_of n r ≡ permitted_names r
unfolding names_of permitted_names
all_names n r e h = rw (e, ne_eqb r.kinds 0 h) refl
